-- Trees of an image: where one stands, and that a map may be written.
-- Assumes nothing.
use Prim.Native.Nat.{ℕ, ◌+◌, ◌-◌, ◌*◌, ◌≤◌, ◌<◌}
use native.Mathlib.Omega.{arith}
use mathlib.Core.Path.{◌≡◌, subst}
use mathlib.Core.List.{List}
use lib.ListN.{length, drop, length-drop}
use Rattle.image.specs.Limits.{max_records, work_bytes}
use Rattle.image.specs.Room.{Low}
use Rattle.image.specs.Tree.{At}
use Rattle.image.specs.Subtrees.{Subtree, tree_of}
use Rattle.writing.specs.Maps.{Over}

-- a plan may be written where there is a map of it
pub map_low : {level : ℕ} {map : Subtree} → Over 1 level map → Low (level + 1) (tree_of map).below
map_low h = record { depth = h.room - 1; deep = h.deep; low = omega (arith, h.shallow, h.some) }

-- a tree stands in the image that it is said to
pub tree_at : (t : Subtree) {s : List ℕ} → t.image.now ≡ s → At (tree_of t) (drop (32 * t.number) s) t.number
tree_at t e = subst (λ (z : List ℕ). At (tree_of t) (drop (32 * t.number) z) t.number) e t.stood.at

-- .. at a record that there is
pub tree_small : (t : Subtree) → length t.image.now ≤ work_bytes → t.number < max_records
tree_small t short = omega (arith, t.stood.at.head.room, length-drop (32 * t.number) t.image.now, short)
