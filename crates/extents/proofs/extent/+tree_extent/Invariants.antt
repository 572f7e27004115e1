-- `extent::tree_extent` meets its contract. The measure is the number of records. The loop's invariant: what is counted, and the children
-- that are left, make up the tree.
use Rattle.std.proofs.Common.{◌≤◌}
use Rattle.image.specs.Subtrees.{forest, tree_of}
use Rattle.image.specs.Tree.{size}
use Rattle.extents.proofs.Extents.{Left}
use Rattle.extents.proofs.extent.+tree_extent.Given as goal

abbrev pub decreases-tree_extent : goal.decreases-tree_extent
decreases-tree_extent g l = size (tree_of l.tree).below

abbrev pub invariant-loop-child : goal.invariant-loop-child
invariant-loop-child g l =
    Left l.records l.below (tree_of l.tree) (forest l.child-iterator)
    × (size (forest l.child-iterator) ≤ size (tree_of l.tree).below)
