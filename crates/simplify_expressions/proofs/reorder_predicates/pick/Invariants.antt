-- `reorder_predicates::pick` meets its contract. The loop's invariant is `Kept`.
use mathlib.Core.Path.{◌≡◌}
use mathlib.Core.Bool.{Bool}
use mathlib.Core.List.{List}
use Prim.Native.Nat.{ℕ, ◌<◌}
use lib.ListN.{get_or}
use Rattle.plan.specs.Syntax.{Expr}
use Rattle.conjuncts.specs.Items.{FALSE, Lists}
use Rattle.conjuncts.proofs.Kept.{Kept}
use Rattle.simplify_expressions.proofs.reorder_predicates.pick.Given as goal

abbrev pub invariant-loop-i : goal.invariant-loop-i
invariant-loop-i g l =
    (s : List ℕ) (es fs : List Expr) (p : Expr → Bool) → Lists s l.c es → Lists s l.fn.into fs
    → ((i : ℕ) (yes : Bool) → i < l.c.len → goal.F-post g l.test i yes → p (get_or es i FALSE) ≡ yes) → Kept s l.r fs p es l.i
