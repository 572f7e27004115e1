-- `reorder_predicates::needs_reorder` meets its contract.
-- The loop's invariant: what is left to say of the rest, and of whether the one before it is expensive.
use mathlib.Core.Path.{◌≡◌}
use mathlib.Core.List.{List}
use lib.ListN.{drop}
use Rattle.plan.specs.Syntax.{Expr}
use Rattle.rewrite.specs.ReorderPredicates.{needs_reorder}
use Rattle.conjuncts.specs.Items.{Lists}
use Rattle.simplify_expressions.proofs.Order.{after_cost}
use Rattle.simplify_expressions.proofs.reorder_predicates.needs_reorder.Given as goal

abbrev pub invariant-loop-i : goal.invariant-loop-i
invariant-loop-i l = (es : List Expr) → Lists l.s l.c es → needs_reorder es ≡ after_cost l.costly (drop l.i es)
