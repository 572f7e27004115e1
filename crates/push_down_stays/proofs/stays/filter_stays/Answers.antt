-- `stays::filter_stays` meets its contract.
use mathlib.Core.Path.{refl, sym, ap, ◌∙◌}
use native.Mathlib.Omega.{arith}
use Rattle.image.specs.Tree.{Tree}
use Rattle.writing.proofs.Maps.{plan_is}
use Rattle.push_down_merge.proofs.OneMerge.{predicate_shaped, predicate_stands}
use Rattle.push_down_merge.proofs.Tested.{elsewhere}
use Rattle.push_down_stays.specs.Staying.{may_stay}
use Rattle.push_down_stays.proofs.Nodes.{the_filter, placed_inside}
use Rattle.push_down_stays.proofs.Stayings.{kept_as, may_stay_other, filter_goes, filter_moves, filter_simple, rests_elsewhere, rests_written}
use Rattle.push_down_stays.proofs.stays.filter_stays.Goals as goal

pub filter_input-input-requires : goal.filter_input-input-requires
filter_input-input-requires c =
    let p = c.requires in (
      omega arith,
      record {
        image = c.args.plan.image.now;
        stretch = refl;
        short = p.inside.short;
        there = record { expr = p.expr; plan = p.plan; standing = (placed_inside p.inside p.is).standing };
      },
    )

pub returns-then-not-may_stay : goal.returns-then-not-may_stay
returns-then-not-may_stay c =
    λ w f h. let a = the_filter c.requires h in
    let at = placed_inside h a.is in
    let st = c.filter_input-input.ensures.input _ a.expr a.plan refl h.short at.standing in
    let same = c.filter_input-input.ensures.same in
    let m = c.may_stay.ensures ∙ ap (λ (t : Tree). may_stay t.label) (plan_is c.filter_input-input.result (elsewhere same st.standing)) in
    rw a.is (filter_goes a.expr a.plan (sym m ∙ c.if-not-may_stay.true))

pub predicate_of-requires : goal.predicate_of-requires
predicate_of-requires c =
    let p = c.requires in
    record { here = record { expr = p.expr; plan = p.plan; standing = (placed_inside p.inside p.is).standing }; short = p.inside.short }

pub predicate_at-p-requires : goal.predicate_at-p-requires
predicate_at-p-requires c =
    let p = c.requires in
    let d = c.predicate_of.ensures in record {
      there = record { expr = p.expr; standing = predicate_stands d.same d.number (placed_inside p.inside p.is) };
      number_nonzero = omega (arith, d.number);
      short = rw d.same p.inside.short;
    }

pub over_stays-requires : goal.over_stays-requires
over_stays-requires c =
    let p = c.requires in
    let at = placed_inside p.inside p.is in
    let st = c.filter_input-input.ensures.input _ p.expr p.plan refl p.inside.short at.standing in
    let same = c.filter_input-input.ensures.same in
    let m = c.may_stay.ensures ∙ ap (λ (t : Tree). may_stay t.label) (plan_is c.filter_input-input.result (elsewhere same st.standing)) in
    let d = c.predicate_of.ensures in
    let k = predicate_shaped d.same d.number at c.predicate_at-p.ensures in record {
      expr = p.expr;
      plan = p.plan;
      rests = rests_elsewhere same (rests_written p.expr p.plan at k st.standing);
      other = may_stay_other p.plan (sym m ∙ c.if-not-may_stay.false);
    }

pub is_simple-requires : goal.is_simple-requires
is_simple-requires c =
    let p = c.requires in
    let at = placed_inside p.inside p.is in
    let d = c.predicate_of.ensures in
    (record { expr = p.expr; shaped = predicate_shaped d.same d.number at c.predicate_at-p.ensures }, p.inside.short)

pub returns-then-over_stays : goal.returns-then-over_stays
returns-then-over_stays c =
    λ w f h. let a = the_filter c.requires h in
    let at = placed_inside h a.is in
    let st = c.filter_input-input.ensures.input _ a.expr a.plan refl h.short at.standing in
    let same = c.filter_input-input.ensures.same in
    let m = c.may_stay.ensures ∙ ap (λ (t : Tree). may_stay t.label) (plan_is c.filter_input-input.result (elsewhere same st.standing)) in
    let d = c.predicate_of.ensures in
    let k = predicate_shaped d.same d.number at c.predicate_at-p.ensures in
    let o = may_stay_other a.plan (sym m ∙ c.if-not-may_stay.false) in
    let r = rests_elsewhere same (rests_written a.expr a.plan at k st.standing) in
    rw a.is (filter_simple a.expr a.plan o (kept_as c.if-over_stays.true (c.over_stays.ensures a.expr a.plan r o))
    (c.is_simple.ensures a.expr k))

pub returns : goal.returns
returns c =
    λ w f h. let a = the_filter c.requires h in
    let at = placed_inside h a.is in
    let st = c.filter_input-input.ensures.input _ a.expr a.plan refl h.short at.standing in
    let same = c.filter_input-input.ensures.same in
    let m = c.may_stay.ensures ∙ ap (λ (t : Tree). may_stay t.label) (plan_is c.filter_input-input.result (elsewhere same st.standing)) in
    let d = c.predicate_of.ensures in
    let k = predicate_shaped d.same d.number at c.predicate_at-p.ensures in
    let o = may_stay_other a.plan (sym m ∙ c.if-not-may_stay.false) in
    let r = rests_elsewhere same (rests_written a.expr a.plan at k st.standing) in
    rw a.is (filter_moves a.expr a.plan o (kept_as c.if-over_stays.false (c.over_stays.ensures a.expr a.plan r o)))
