-- `replaced::changed` meets its contract. The loop's invariant: what is listed, and then the rest changed, is all changed.
use mathlib.Core.List.{List}
use Prim.Native.Nat.{ℕ}
use Rattle.plan.specs.Syntax.{Name, Expr}
use Rattle.conjuncts.specs.Items.{Lists}
use Rattle.push_down_arms.proofs.Changes.{Made}
use Rattle.push_down_arms.proofs.replaced.changed.Given as goal

abbrev pub invariant-loop-n : goal.invariant-loop-n
invariant-loop-n l = (s : List ℕ) (σ : Name → Expr) (es : List Expr) → Lists s l.fn.c es → Made s σ l.r es l.n-index
