-- `equality::same_items` meets its contract. The loop's invariant: the lists are equal if what is left of them is.
use mathlib.Core.Path.{◌≡◌}
use mathlib.Core.List.{List}
use lib.ListN.{drop, length}
use Rattle.plan.specs.Syntax.{Expr}
use Rattle.conjuncts.specs.Items.{Lists}
use Rattle.conjuncts.proofs.equality.same_items.Given as goal

abbrev pub invariant-loop-x : goal.invariant-loop-x
invariant-loop-x l =
    (xs ys : List Expr) → Lists l.s l.fn.a xs → Lists l.s l.fn.b ys → drop (length l.yielded) xs ≡ drop (length l.yielded) ys → xs ≡ ys
