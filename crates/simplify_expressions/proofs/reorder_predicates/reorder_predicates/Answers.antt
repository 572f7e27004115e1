-- `reorder_predicates::reorder_predicates` meets its contract.
use Rattle.std.proofs.Common.{rules, not, refl, sym, ◌∙◌}
use Rattle.plan.specs.Syntax.{Expr}
use Rattle.rewrite.specs.ReorderPredicates.{is_cheap_predicate}
use Rattle.conjuncts.proofs.Listed.{lists_none}
use Rattle.simplify_expressions.proofs.Order.{volatile_stays, ordered_stays, reordered}
use Rattle.simplify_expressions.proofs.reorder_predicates.reorder_predicates.Goals as goal

pub returns-then-any_volatile : goal.returns-then-any_volatile
returns-then-any_volatile c =
    λ es h. rw (volatile_stays es (sym c.if-any_volatile.true ∙ c.any_volatile.ensures es h)) (refl, refl)

pub returns-then-not-needs_reorder : goal.returns-then-not-needs_reorder
returns-then-not-needs_reorder c =
    λ es h. rw (ordered_stays es (sym c.if-not-needs_reorder.true ∙ c.needs_reorder.ensures es h)) (refl, refl)

pub returns : goal.returns
returns c =
    λ es h. rw (reordered es (sym c.if-any_volatile.false ∙ c.any_volatile.ensures es h) (sym c.if-not-needs_reorder.false ∙ c.needs_reorder.ensures es h)) (
      c.pick.ensures _ es _ (λ (e : Expr). not (is_cheap_predicate e)) h (c.pick-cheap.ensures _ es _ is_cheap_predicate h (lists_none c.empty.ensures)
          (λ i yes lt k. search rules)) (λ i yes lt k. search rules),
      refl,
    )
