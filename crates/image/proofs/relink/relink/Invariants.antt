-- `relink::relink` meets its contract. The loop's invariant: of any tree that was there, the records from i on are turned.
use mathlib.Core.Path.{◌≡◌}
use mathlib.Core.List.{List, ◌++◌}
use Prim.Native.Nat.{ℕ}
use lib.ListN.{length}
use Rattle.image.specs.Limits.{max_below}
use Rattle.image.specs.Tree.{Tree, Deep}
use Rattle.image.specs.Flat.{size_t, flat}
use Rattle.image.specs.Records.{recs}
use Rattle.image.proofs.Relinking.{Back}
use Rattle.image.proofs.relink.relink.Given as goal

abbrev pub invariant-loop-i : goal.invariant-loop-i
invariant-loop-i l =
    (length l.out ≡ length l.initial.out)
    × ((t : Tree) (rest : List ℕ) → Deep t.below max_below → l.n ≡ size_t t → l.initial.out ≡ flat 1 t ++ rest → Back l.out l.table l.i (recs 1 t) rest)
