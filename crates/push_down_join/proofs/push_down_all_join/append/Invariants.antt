-- The loop's invariant: the items passed are appended.
use mathlib.Core.List.{List, ◌++◌, map}
use Prim.Native.Nat.{ℕ, ◌+◌}
use lib.ListN.{take}
use Rattle.conjuncts.specs.Items.{Holds}
use Rattle.push_down_join.proofs.push_down_all_join.append.Given as goal

abbrev pub invariant-loop-n : goal.invariant-loop-n
invariant-loop-n l = (xs ys : List ℕ) → Holds l.initial.r xs → Holds l.fn.c ys → Holds l.r (xs ++ map (λ y. y + l.more) (take l.n-index ys))
