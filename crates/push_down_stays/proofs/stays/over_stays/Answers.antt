-- `stays::over_stays` meets its contract: the kind of a plan tells its arm.
use mathlib.Core.Path.{◌≡◌, sym, ap, ◌∙◌}
use mathlib.Core.Bool.{true}
use Rattle.std.proofs.Common.{rules}
use Rattle.plan.specs.Kinds.{TableScan, Projection, Join, Aggregate, Window}
use Rattle.image.specs.Tree.{Label, Tree}
use Rattle.writing.proofs.Maps.{plan_is}
use Rattle.push_down_arms.specs.Through.{takes_none}
use Rattle.push_down_stays.proofs.Dispatches.{kind_of, numbered, over_scan, over_project, over_join, over_aggregate, over_window}
use Rattle.push_down_stays.proofs.KindOf.{when_scan, when_project, when_join, when_aggregate, when_window}
use Rattle.push_down_stays.proofs.Stayings.{stays_over, decided, through_kept}
use Rattle.push_down_stays.proofs.stays.over_stays.Goals as goal

pub over_scan_stays-requires : goal.over_scan_stays-requires
over_scan_stays-requires c =
    let r = c.requires in
    let a = c.in-Plan-TableScan in
    over_scan r (kind_of c.args.plan c.kind.ensures r.rests.placed.standing) (numbered TableScan c.what_of.ensures a.is a.field-0-is)

pub returns-in-Plan-TableScan : goal.returns-in-Plan-TableScan
returns-in-Plan-TableScan c =
    λ e q h o. let a = c.in-Plan-TableScan in
    when_scan (stays_over _ _ _ e _) (c.over_scan_stays.ensures e) q
    (sym (kind_of c.args.plan c.kind.ensures h.placed.standing) ∙ numbered TableScan c.what_of.ensures a.is a.field-0-is) h

pub over_projection_stays-requires : goal.over_projection_stays-requires
over_projection_stays-requires c =
    let r = c.requires in
    let a = c.in-Plan-Projection in
    over_project r (kind_of c.args.plan c.kind.ensures r.rests.placed.standing) (numbered Projection c.what_of.ensures a.is a.field-0-is)

pub returns-in-Plan-Projection : goal.returns-in-Plan-Projection
returns-in-Plan-Projection c =
    λ e q h o. let a = c.in-Plan-Projection in
    when_project (stays_over _ _ _ e _) (c.over_projection_stays.ensures e) q
    (sym (kind_of c.args.plan c.kind.ensures h.placed.standing) ∙ numbered Projection c.what_of.ensures a.is a.field-0-is) h

pub over_join_stays-requires : goal.over_join_stays-requires
over_join_stays-requires c =
    let r = c.requires in
    let a = c.in-Plan-Join in
    over_join r (kind_of c.args.plan c.kind.ensures r.rests.placed.standing) (numbered Join c.what_of.ensures a.is a.field-0-is)

pub returns-in-Plan-Join : goal.returns-in-Plan-Join
returns-in-Plan-Join c =
    λ e q h o. let a = c.in-Plan-Join in
    when_join (stays_over _ _ _ e _) (c.over_join_stays.ensures e) q
    (sym (kind_of c.args.plan c.kind.ensures h.placed.standing) ∙ numbered Join c.what_of.ensures a.is a.field-0-is) h

pub over_aggregate_stays-requires : goal.over_aggregate_stays-requires
over_aggregate_stays-requires c =
    let r = c.requires in
    let a = c.in-Plan-Aggregate in
    over_aggregate r (kind_of c.args.plan c.kind.ensures r.rests.placed.standing) (numbered Aggregate c.what_of.ensures a.is a.field-0-is)

pub returns-in-Plan-Aggregate : goal.returns-in-Plan-Aggregate
returns-in-Plan-Aggregate c =
    λ e q h o. let a = c.in-Plan-Aggregate in
    when_aggregate (stays_over _ _ _ e _) (c.over_aggregate_stays.ensures e) q
    (sym (kind_of c.args.plan c.kind.ensures h.placed.standing) ∙ numbered Aggregate c.what_of.ensures a.is a.field-0-is) h

pub over_window_stays-requires : goal.over_window_stays-requires
over_window_stays-requires c =
    let r = c.requires in
    let a = c.in-Plan-Window in
    over_window r (kind_of c.args.plan c.kind.ensures r.rests.placed.standing) (numbered Window c.what_of.ensures a.is a.field-0-is)

pub returns-in-Plan-Window : goal.returns-in-Plan-Window
returns-in-Plan-Window c =
    λ e q h o. let a = c.in-Plan-Window in
    when_window (stays_over _ _ _ e _) (c.over_window_stays.ensures e) q
    (sym (kind_of c.args.plan c.kind.ensures h.placed.standing) ∙ numbered Window c.what_of.ensures a.is a.field-0-is) h

pub returns-in-Plan-SubqueryAlias : goal.returns-in-Plan-SubqueryAlias
returns-in-Plan-SubqueryAlias c =
    λ e q h o. let y = kind_of c.args.plan c.kind.ensures h.placed.standing in
    let t : decided c.what_of.result ≡ true = search rules in
    through_kept e q o y c.what_of.ensures t
    (c.takes_none.ensures
    ∙ ap (λ (l : Label). takes_none l) (c.label.ensures.label ∙ ap (λ (t : Tree). t.label) (plan_is c.args.plan h.placed.standing)))
