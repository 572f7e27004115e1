-- `levels::note_levels` meets its contract. The loop's invariant: the records that those passed lead to have their depths.
use mathlib.Core.Path.{◌≡◌}
use Prim.Native.Nat.{◌≤◌, ◌<◌}
use lib.ListN.{length}
use Rattle.image.specs.Limits.{max_records}
use Rattle.image.specs.Tree.{Tree, At}
use Rattle.image.specs.Flat.{size_t, flat}
use Rattle.answers.proofs.Noting.{Noted}
use Rattle.answers.proofs.levels.note_levels.Given as goal

abbrev pub invariant-loop-i : goal.invariant-loop-i
invariant-loop-i l =
    (0 < l.i) × (l.n ≤ max_records) × (length l.levels ≡ max_records) × ((t : Tree) → At t l.s 0 → l.n ≡ size_t t → Noted l.s (flat 1 t) l.n l.levels l.i)
