-- Simplifying and reordering make no list longer.
use Prim.Native.Nat.{◌≤◌}
use native.Mathlib.Nat.{le_trans, le_of_eq}
use mathlib.Core.List.{List}
use lib.ListN.{length}
use Rattle.plan.specs.Syntax.{Expr}
use Rattle.rewrite.specs.SimplifyPredicates.{simplify_predicates}
use Rattle.rewrite.specs.ReorderPredicates.{reorder_predicates}
use Rattle.simplify_expressions.proofs.Few.{reordered_length, simplified_few}

pub new_few : (es : List Expr) → length (reorder_predicates (simplify_predicates es)).predicates ≤ length es
new_few es = le_trans (le_of_eq (reordered_length (simplify_predicates es))) (simplified_few es)
