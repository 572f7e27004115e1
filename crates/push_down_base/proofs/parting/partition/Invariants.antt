-- `parting::partition` meets its contract. The loop's invariant: what is listed of each kind, and then what of the rest is to be, is all.
use mathlib.Core.Bool.{not}
use mathlib.Core.List.{List, []}
use Prim.Native.Nat.{ℕ}
use mathlib.Core.Bool.{Bool}
use Rattle.plan.specs.Syntax.{Expr}
use Rattle.conjuncts.specs.Items.{Lists}
use Rattle.conjuncts.proofs.Kept.{Kept}
use Rattle.push_down_base.specs.Parting.{Tells}
use Rattle.push_down_base.proofs.parting.partition.Given as goal

abbrev pub invariant-loop-item : goal.invariant-loop-item
invariant-loop-item g l =
    (s : List ℕ) (es : List Expr) (t : Expr → Bool) → Lists s l.fn.c es → Tells s (goal.F-post g l.test) t es
    → Kept s l.passed [] t es l.item-index × Kept s l.others [] (λ e. not (t e)) es l.item-index
