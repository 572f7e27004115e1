-- `input::rewrite_input` meets its contract: the kind of a plan tells its arm.
use mathlib.Core.Path.{◌≡◌}
use mathlib.Core.Bool.{true}
use Rattle.std.proofs.Common.{rules}
use Rattle.plan.specs.Kinds.{TableScan, Projection, Join, SubqueryAlias, Union, Aggregate, Window}
use Rattle.push_down_stays.proofs.Dispatches.{kind_of, numbered, over_scan, over_project, over_join, over_alias, over_union, over_aggregate, over_window}
use Rattle.push_down_stays.proofs.Dispatches.{by_scan, by_project, by_join, by_alias, by_union, by_aggregate, by_window}
use Rattle.push_down_rewrite.proofs.Passed.{passes, is_through}
use Rattle.push_down_rewrite.proofs.input.rewrite_input.Goals as goal

pub rewrite_table_scan-requires-clause-over_scan : goal.rewrite_table_scan-requires-clause-over_scan
rewrite_table_scan-requires-clause-over_scan c =
    let r = c.requires.on_input in
    let a = c.in-Plan-TableScan in
    over_scan r (kind_of c.args.input c.kind.ensures r.rests.placed.standing) (numbered TableScan c.what_of.ensures a.is a.field-0-is)

pub returns-in-Plan-TableScan-clause-answers : goal.returns-in-Plan-TableScan-clause-answers
returns-in-Plan-TableScan-clause-answers c =
    λ e q h i. let a = c.in-Plan-TableScan in
    by_scan c.rewrite_table_scan.ensures.answers (numbered TableScan c.what_of.ensures a.is a.field-0-is) e q
    (kind_of c.args.input c.kind.ensures h.placed.standing) h

pub rewrite_projection-requires-clause-over_projection : goal.rewrite_projection-requires-clause-over_projection
rewrite_projection-requires-clause-over_projection c =
    let r = c.requires.on_input in
    let a = c.in-Plan-Projection in
    over_project r (kind_of c.args.input c.kind.ensures r.rests.placed.standing) (numbered Projection c.what_of.ensures a.is a.field-0-is)

pub returns-in-Plan-Projection-clause-answers : goal.returns-in-Plan-Projection-clause-answers
returns-in-Plan-Projection-clause-answers c =
    λ e q h i. let a = c.in-Plan-Projection in
    by_project c.rewrite_projection.ensures.answers (numbered Projection c.what_of.ensures a.is a.field-0-is) e q
    (kind_of c.args.input c.kind.ensures h.placed.standing) h

pub rewrite_join-requires-clause-over_join : goal.rewrite_join-requires-clause-over_join
rewrite_join-requires-clause-over_join c =
    let r = c.requires.on_input in
    let a = c.in-Plan-Join in
    over_join r (kind_of c.args.input c.kind.ensures r.rests.placed.standing) (numbered Join c.what_of.ensures a.is a.field-0-is)

pub returns-in-Plan-Join-clause-answers : goal.returns-in-Plan-Join-clause-answers
returns-in-Plan-Join-clause-answers c =
    λ e q h i. let a = c.in-Plan-Join in
    by_join c.rewrite_join.ensures.answers (numbered Join c.what_of.ensures a.is a.field-0-is) e q
    (kind_of c.args.input c.kind.ensures h.placed.standing) h

pub rewrite_subquery_alias-requires-clause-over_alias : goal.rewrite_subquery_alias-requires-clause-over_alias
rewrite_subquery_alias-requires-clause-over_alias c =
    let r = c.requires.on_input in
    let a = c.in-Plan-SubqueryAlias in
    over_alias r (kind_of c.args.input c.kind.ensures r.rests.placed.standing) (numbered SubqueryAlias c.what_of.ensures a.is a.field-0-is)

pub returns-in-Plan-SubqueryAlias-clause-answers : goal.returns-in-Plan-SubqueryAlias-clause-answers
returns-in-Plan-SubqueryAlias-clause-answers c =
    λ e q h i. let a = c.in-Plan-SubqueryAlias in
    by_alias c.rewrite_subquery_alias.ensures.answers (numbered SubqueryAlias c.what_of.ensures a.is a.field-0-is) e q
    (kind_of c.args.input c.kind.ensures h.placed.standing) h

pub rewrite_union-requires-clause-over_union : goal.rewrite_union-requires-clause-over_union
rewrite_union-requires-clause-over_union c =
    let r = c.requires.on_input in
    let a = c.in-Plan-Union in
    over_union r (kind_of c.args.input c.kind.ensures r.rests.placed.standing) (numbered Union c.what_of.ensures a.is a.field-0-is)

pub returns-in-Plan-Union-clause-answers : goal.returns-in-Plan-Union-clause-answers
returns-in-Plan-Union-clause-answers c =
    λ e q h i. let a = c.in-Plan-Union in
    by_union c.rewrite_union.ensures.answers (numbered Union c.what_of.ensures a.is a.field-0-is) e q
    (kind_of c.args.input c.kind.ensures h.placed.standing) h

pub rewrite_aggregate-requires-clause-over_aggregate : goal.rewrite_aggregate-requires-clause-over_aggregate
rewrite_aggregate-requires-clause-over_aggregate c =
    let r = c.requires.on_input in
    let a = c.in-Plan-Aggregate in
    over_aggregate r (kind_of c.args.input c.kind.ensures r.rests.placed.standing) (numbered Aggregate c.what_of.ensures a.is a.field-0-is)

pub returns-in-Plan-Aggregate-clause-answers : goal.returns-in-Plan-Aggregate-clause-answers
returns-in-Plan-Aggregate-clause-answers c =
    λ e q h i. let a = c.in-Plan-Aggregate in
    by_aggregate c.rewrite_aggregate.ensures.answers (numbered Aggregate c.what_of.ensures a.is a.field-0-is) e q
    (kind_of c.args.input c.kind.ensures h.placed.standing) h

pub rewrite_window-requires-clause-over_window : goal.rewrite_window-requires-clause-over_window
rewrite_window-requires-clause-over_window c =
    let r = c.requires.on_input in
    let a = c.in-Plan-Window in
    over_window r (kind_of c.args.input c.kind.ensures r.rests.placed.standing) (numbered Window c.what_of.ensures a.is a.field-0-is)

pub returns-in-Plan-Window-clause-answers : goal.returns-in-Plan-Window-clause-answers
returns-in-Plan-Window-clause-answers c =
    λ e q h i. let a = c.in-Plan-Window in
    by_window c.rewrite_window.ensures.answers (numbered Window c.what_of.ensures a.is a.field-0-is) e q
    (kind_of c.args.input c.kind.ensures h.placed.standing) h

pub rewrite_through-requires-clause-over_through : goal.rewrite_through-requires-clause-over_through
rewrite_through-requires-clause-over_through c =
    let r = c.requires.on_input in
    let y = kind_of c.args.input c.kind.ensures r.rests.placed.standing in
    let t : passes c.what_of.result ≡ true = search rules in
    record { expr = r.expr; plan = r.plan; rests = r.rests; is = is_through r.plan r.other y c.what_of.ensures t }

pub returns-in-Plan-Distinct-clause-answers : goal.returns-in-Plan-Distinct-clause-answers
returns-in-Plan-Distinct-clause-answers c =
    λ e q h i. let y = kind_of c.args.input c.kind.ensures h.placed.standing in
    let t : passes c.what_of.result ≡ true = search rules in
    c.rewrite_through.ensures.answers e q h (is_through q i y c.what_of.ensures t)
