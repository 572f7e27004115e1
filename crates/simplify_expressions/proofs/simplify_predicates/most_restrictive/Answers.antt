-- `simplify_predicates::most_restrictive` meets its contract.
use mathlib.Core.Path.{sym, ◌∙◌}
use Rattle.std.proofs.Common.{true, rules}
use native.Mathlib.Omega.{arith}
use Rattle.plan.proofs.Lists.{keep_all}
use lib.ListN.{get_or}
use Rattle.plan.specs.Lists.{put}
use Rattle.conjuncts.specs.Items.{FALSE}
use Rattle.conjuncts.proofs.Listed.{lists_at, lists_length}
use Rattle.simplify_expressions.proofs.Sides.{restrict_one, restrict_all}
use Rattle.simplify_expressions.proofs.simplify_predicates.most_restrictive.Goals as goal

pub add_if-requires : goal.add_if-requires
unfolding put
add_if-requires c =
    let p = c.requires in
    (lists_at p.lists p.most _ _ c.find_most_restrictive_predicate-best.ensures.0 c.item_at.ensures).small

pub returns-then-all_of_kind : goal.returns-then-all_of_kind
unfolding put
returns-then-all_of_kind c =
    λ es fs spell h k sp. let p = c.requires in
    let f = c.find_most_restrictive_predicate-best.ensures in
    let best = c.find_most_restrictive_predicate-best.result in
    rw (restrict_one _ spell es best (omega (arith, lists_length h p.most, f.0)) (omega (arith, lists_length h p.most, f.0)) sp
    (rw (← c.first_kind.ensures es h) (sym c.if-all_of_kind.true
    ∙ c.all_of_kind.ensures es h)) (f.1 es h))
    (c.add_if.ensures _ fs (get_or es best FALSE) k (lists_at h p.most _ _ f.0 c.item_at.ensures))

pub returns : goal.returns
unfolding put
returns c =
    λ es fs spell h k sp. let p = c.requires in
    rw (restrict_all _ spell es (omega (arith, lists_length h p.most, c.if-c-eq0.false)) sp
    (rw (← c.first_kind.ensures es h) (sym c.if-all_of_kind.false ∙ c.all_of_kind.ensures es h)))
    (let all = c.pick.ensures _ es fs (λ e. true) h k (λ i yes lt t. search rules) in rw keep_all at all)
