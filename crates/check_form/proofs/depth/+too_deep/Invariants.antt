-- `depth::too_deep` meets its contract. The measure is how many trees there are.
-- The loop's invariant: no record so far is too deep.
use mathlib.Core.Path.{◌≡◌}
use Prim.Native.Nat.{◌≤◌}
use Rattle.image.specs.Subtrees.{forest}
use Rattle.image.specs.Tree.{size}
use Rattle.check_form.specs.Deep.{deepest}
use Rattle.check_form.proofs.depth.+too_deep.Given as goal

abbrev pub decreases-too_deep : goal.decreases-too_deep
decreases-too_deep g l = size (forest l.trees)

abbrev pub invariant-loop-tree : goal.invariant-loop-tree
invariant-loop-tree g l =
    (size (forest l.tree-iterator) ≤ size (forest l.trees))
    × (deepest l.level l.tree-iterator.first (forest l.tree-iterator) ≡ deepest l.level l.trees.first (forest l.trees))
