-- `copying::Writer::copy_tree` meets its contract. The measure is the number of records.
-- The loop's invariant: what is left of the children completes the output.
use Rattle.std.proofs.Common.{◌≡◌, ◌+◌, ◌≤◌}
use Rattle.image.specs.Tree.{size}
use Rattle.image.specs.Room.{Low}
use Rattle.image.specs.Subtrees.{forest, tree_of}
use Rattle.image.proofs.Room.{Left}
use Rattle.image.proofs.copying.Writer.+copy_tree.Given as goal

abbrev pub decreases-copy_tree : goal.decreases-copy_tree
decreases-copy_tree g l = size (tree_of l.tree).below

abbrev pub invariant-loop-child : goal.invariant-loop-child
invariant-loop-child g l =
    (l.self.bytes.ghost_name ≡ l.fn.self.bytes.ghost_name)
    × Left l.initial.self.bytes.now l.initial.self.next (l.level + 1) (tree_of l.tree).below l.self.bytes.now l.self.next (forest l.child-iterator)
    × Low (l.level + 1) (forest l.child-iterator)
    × (size (forest l.child-iterator) ≤ size (tree_of l.tree).below)
