-- `replace_cols_by_name::replace_cols_by_name` meets its contract. The measure is the number of records. The loop's invariant: what is
-- left of the children, with its columns replaced, completes the output.
use Rattle.std.proofs.Common.{◌≡◌, ◌+◌, ◌≤◌}
use Rattle.image.specs.Tree.{size}
use Rattle.image.specs.Subtrees.{forest, tree_of}
use Rattle.image.proofs.Room.{Left}
use Rattle.writing.specs.Replaced.{LowOver, replaced_any}
use Rattle.writing.proofs.replace_cols_by_name.+replace_cols_by_name.Given as goal

abbrev pub decreases-replace_cols_by_name : goal.decreases-replace_cols_by_name
decreases-replace_cols_by_name g l = size (tree_of l.tree).below

abbrev pub invariant-loop-child : goal.invariant-loop-child
invariant-loop-child g l =
    (l.out.bytes.ghost_name ≡ l.fn.out.bytes.ghost_name)
    × Left l.initial.out.bytes.now l.initial.out.next (l.level + 1) (replaced_any (tree_of l.map) (tree_of l.tree).below) l.out.bytes.now l.out.next
    (replaced_any (tree_of l.map) (forest l.child-iterator))
    × LowOver (l.level + 1) (tree_of l.map).below (forest l.child-iterator)
    × (size (forest l.child-iterator) ≤ size (tree_of l.tree).below)
