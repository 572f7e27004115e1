-- `stays::stays` meets its contract.
use mathlib.Core.Path.{sym, ◌∙◌}
use Rattle.push_down_merge.proofs.Tested.{stands_inside}
use Rattle.push_down_stays.proofs.Dispatches.{kind_of}
use Rattle.push_down_stays.proofs.Nodes.{a_filter, a_join, placed_inside, other_stays}
use Rattle.push_down_stays.proofs.Stayings.{join_stays_so}
use Rattle.push_down_stays.proofs.stays.stays.Goals as goal

pub filter_stays-requires : goal.filter_stays-requires
filter_stays-requires c =
    let f = c.requires in
    let a = a_filter f.spot.plan (sym (kind_of c.args.plan c.kind-kind.ensures (stands_inside f.inside)) ∙ c.if-kind-eq-FILTER.true) in record {
      whole = f.whole;
      spot = f.spot;
      inside = f.inside;
      expr = a.expr;
      plan = a.plan;
      is = a.is;
    }

pub join_stays-requires : goal.join_stays-requires
join_stays-requires c =
    let f = c.requires in
    let a = a_join f.spot.plan (sym (kind_of c.args.plan c.kind-kind.ensures (stands_inside f.inside)) ∙ c.if-kind-eq-JOIN.true) in record {
      kind = a.kind;
      lhs = a.lhs;
      rhs = a.rhs;
      keys = a.keys;
      condition = a.condition;
      placed = placed_inside f.inside a.is;
    }

pub returns-then-kind-eq-JOIN : goal.returns-then-kind-eq-JOIN
returns-then-kind-eq-JOIN c =
    λ w f h. let a = a_join f.plan (sym (kind_of c.args.plan c.kind-kind.ensures (stands_inside h)) ∙ c.if-kind-eq-JOIN.true) in
    rw a.is (join_stays_so a.kind a.lhs a.rhs a.keys a.condition
    (c.join_stays.ensures a.kind a.lhs a.rhs a.keys a.condition (placed_inside h a.is)))

pub returns : goal.returns
returns c =
    λ w f h. let k = kind_of c.args.plan c.kind-kind.ensures (stands_inside h) in
    other_stays f.plan (λ e. c.if-kind-eq-FILTER.false (k ∙ e)) (λ e. c.if-kind-eq-JOIN.false (k ∙ e))
