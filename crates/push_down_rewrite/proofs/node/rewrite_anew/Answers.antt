-- `node::rewrite_anew` meets its contract.
use mathlib.Core.Path.{refl, sym, ◌∙◌}
use native.Mathlib.Omega.{arith}
use Rattle.push_down_merge.proofs.OneMerge.{predicate_shaped, predicate_stands}
use Rattle.push_down_merge.proofs.Tested.{stands_inside}
use Rattle.push_down_stays.proofs.Dispatches.{kind_of}
use Rattle.push_down_stays.proofs.Nodes.{a_filter, a_join, other_stays, placed_inside}
use Rattle.push_down_stays.proofs.Stayings.{rests_written}
use Rattle.push_down_rewrite.proofs.Outcoming.{filter_outcomes, stays_outcomes}
use Rattle.push_down_rewrite.proofs.node.rewrite_anew.Goals as goal

pub predicate_of-requires-clause-here : goal.predicate_of-requires-clause-here
predicate_of-requires-clause-here c =
    let f = c.requires in
    let i = f.inside in
    let a = a_filter f.spot.plan (sym (kind_of c.args.plan c.kind-kind.ensures (stands_inside i)) ∙ c.if-kind-eq-FILTER.true) in
    record { expr = a.expr; plan = a.plan; standing = (placed_inside i a.is).standing }

pub predicate_at-p-requires : goal.predicate_at-p-requires
predicate_at-p-requires c =
    let f = c.requires in
    let i = f.inside in
    let a = a_filter f.spot.plan (sym (kind_of c.args.plan c.kind-kind.ensures (stands_inside i)) ∙ c.if-kind-eq-FILTER.true) in
    let d = c.predicate_of.ensures in record {
      there = record { expr = a.expr; standing = predicate_stands d.same d.number (placed_inside i a.is) };
      number_nonzero = omega (arith, d.number);
      short = rw d.same i.short;
    }

pub filter_input-requires : goal.filter_input-requires
filter_input-requires c =
    let f = c.requires in
    let i = f.inside in
    let a = a_filter f.spot.plan (sym (kind_of c.args.plan c.kind-kind.ensures (stands_inside i)) ∙ c.if-kind-eq-FILTER.true) in (
      omega arith,
      record {
        image = c.args.plan.image.now;
        stretch = refl;
        short = i.short;
        there = record { expr = a.expr; plan = a.plan; standing = (placed_inside i a.is).standing };
      },
    )

pub rewrite_filter-requires-clause-on_plan : goal.rewrite_filter-requires-clause-on_plan
rewrite_filter-requires-clause-on_plan c =
    let f = c.requires in
    let i = f.inside in
    let a = a_filter f.spot.plan (sym (kind_of c.args.plan c.kind-kind.ensures (stands_inside i)) ∙ c.if-kind-eq-FILTER.true) in
    let e = a.expr in
    let q = a.plan in
    let h = placed_inside i a.is in
    let d = c.predicate_of.ensures in
    let k = predicate_shaped d.same d.number h c.predicate_at-p.ensures in
    let g = c.filter_input.ensures.input _ e q refl i.short h.standing in record {
      whole = f.whole;
      spot = f.spot;
      inside = i;
      expr = e;
      plan = q;
      rests = rests_written e q h k g.standing;
    }

pub returns-then-kind-eq-FILTER-clause-outcomes : goal.returns-then-kind-eq-FILTER-clause-outcomes
returns-then-kind-eq-FILTER-clause-outcomes c =
    λ w f i. let a = a_filter f.plan (sym (kind_of c.args.plan c.kind-kind.ensures (stands_inside i)) ∙ c.if-kind-eq-FILTER.true) in
    let e = a.expr in
    let q = a.plan in
    let h = placed_inside i a.is in
    let d = c.predicate_of.ensures in
    let k = predicate_shaped d.same d.number h c.predicate_at-p.ensures in
    let g = c.filter_input.ensures.input _ e q refl i.short h.standing in
    filter_outcomes a.is (c.rewrite_filter.ensures.finishes w f i e q (rests_written e q h k g.standing))

pub rewrite_join_node-requires : goal.rewrite_join_node-requires
rewrite_join_node-requires c =
    let f = c.requires in
    let a = a_join f.spot.plan (sym (kind_of c.args.plan c.kind-kind.ensures (stands_inside f.inside)) ∙ c.if-kind-eq-JOIN.true) in record {
      whole = f.whole;
      spot = f.spot;
      inside = f.inside;
      kind = a.kind;
      lhs = a.lhs;
      rhs = a.rhs;
      keys = a.keys;
      condition = a.condition;
      is = a.is;
    }

pub returns-clause-outcomes : goal.returns-clause-outcomes
returns-clause-outcomes c =
    λ w f h. let k = kind_of c.args.plan c.kind-kind.ensures (stands_inside h) in
    stays_outcomes h (other_stays f.plan (λ e. c.if-kind-eq-FILTER.false (k ∙ e)) (λ e. c.if-kind-eq-JOIN.false (k ∙ e))) refl
