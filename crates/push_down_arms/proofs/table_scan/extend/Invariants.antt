-- `table_scan::extend` meets its contract. The loop's invariant is `Kept`: all are.
use mathlib.Core.Bool.{true}
use mathlib.Core.List.{List}
use Prim.Native.Nat.{ℕ}
use Rattle.plan.specs.Syntax.{Expr}
use Rattle.conjuncts.specs.Items.{Lists}
use Rattle.conjuncts.proofs.Kept.{Kept}
use Rattle.push_down_arms.proofs.table_scan.extend.Given as goal

abbrev pub invariant-loop-n : goal.invariant-loop-n
invariant-loop-n l = (s : List ℕ) (ds es : List Expr) → Lists s l.initial.r ds → Lists s l.fn.c es → Kept s l.r ds (λ e. true) es l.n-index
