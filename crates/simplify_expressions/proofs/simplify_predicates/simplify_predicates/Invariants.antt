-- `simplify_predicates::simplify_predicates` meets its contract.
-- The loop's invariant: what is listed, and then the columns that are left, is all.
use mathlib.Core.List.{List}
use Prim.Native.Nat.{◌-◌}
use Rattle.plan.specs.Syntax.{Expr}
use Rattle.conjuncts.specs.Items.{Lists}
use Rattle.simplify_expressions.specs.Classes.{key_of}
use Rattle.simplify_expressions.proofs.Simplified.{Going}
use Rattle.simplify_expressions.proofs.simplify_predicates.simplify_predicates.Given as goal

abbrev pub invariant-loop-left : goal.invariant-loop-left
invariant-loop-left l = (es : List Expr) → Lists l.s l.c es → Going l.s l.r es (key_of l.key) (l._left-end - l._left)
