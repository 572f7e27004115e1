-- `write_sides::copy_pairs` meets its contract. The loop's invariant: the pairs of what is left of the children complete the run.
use mathlib.Core.Path.{◌≡◌}
use Rattle.image.specs.Room.{Low}
use Rattle.image.specs.Subtrees.{forest, tree_of}
use Rattle.push_down_join.proofs.JoinParts.{PairsLeft}
use Rattle.push_down_join.proofs.write_sides.copy_pairs.Given as goal

abbrev pub invariant-loop-child : goal.invariant-loop-child
invariant-loop-child l =
    (l.out.bytes.ghost_name ≡ l.fn.out.bytes.ghost_name)
    × PairsLeft l.level l.fn.out.bytes.now l.fn.out.next (tree_of l.plan).below l.out.bytes.now l.out.next (forest l.child-iterator)
    × Low l.level (forest l.child-iterator)
