-- The records of a tree stand in its image.
-- Assumes nothing.
use Prim.Native.Nat.{ℕ, ◌+◌, ◌*◌, ◌≤◌, ◌<◌}
use native.Mathlib.Omega.{arith}
use lib.ListN.{length, length-drop}
use Rattle.image.specs.Flat.{size_t}
use Rattle.image.specs.Subtrees.{Subtree, part_of, tree_of}
use Rattle.image.specs.declared.trees.Stretch.{Stretch}

pub within : (x : Subtree) (i : ℕ) → i < size_t (tree_of x) → 32 * (x.number + i) + 32 ≤ length x.image.now
within x i lt = omega (arith, x.stood.at.head.room, length-drop (32 * x.number) x.image.now)

-- .. in the bytes from its top on
pub part_within : {N : ℕ} (x : Stretch N) (i : ℕ) → i < size_t (tree_of x) → 32 * i + 32 ≤ length (part_of x)
part_within x i lt = omega (arith, x.stood.at.head.room)
