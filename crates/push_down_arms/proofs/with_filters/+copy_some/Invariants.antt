-- `with_filters::copy_some` meets its contract. The measure is the number of records.
-- The loop's invariant: what is left of the children completes the run.
use Rattle.std.proofs.Common.{◌≡◌, ◌+◌, ◌≤◌}
use Rattle.image.specs.Tree.{size}
use Rattle.image.specs.Room.{Low}
use Rattle.image.specs.Subtrees.{forest, tree_of}
use Rattle.push_down_base.proofs.WrittenRuns.{Rest}
use Rattle.push_down_arms.proofs.with_filters.+copy_some.Given as goal

abbrev pub decreases-copy_some : goal.decreases-copy_some
decreases-copy_some g l = size (tree_of l.tree).below

abbrev pub invariant-loop-child : goal.invariant-loop-child
invariant-loop-child g l =
    (l.out.bytes.ghost_name ≡ l.fn.out.bytes.ghost_name)
    × Rest l.end (l.level + 1) (l.tree.number + 1) l.initial.out.bytes.now l.initial.out.next (tree_of l.tree).below l.out.bytes.now l.out.next
    l.child-iterator.first (forest l.child-iterator)
    × Low (l.level + 1) (forest l.child-iterator)
    × (size (forest l.child-iterator) ≤ size (tree_of l.tree).below)
