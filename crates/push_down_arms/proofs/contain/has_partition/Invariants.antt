-- `contain::has_partition` meets its contract. The loop's invariant: no column so far has the name.
use mathlib.Core.Path.{◌≡◌}
use Rattle.image.specs.Subtrees.{forest, tree_of}
use Rattle.utils.specs.Fields.{named}
use Rattle.push_down_arms.specs.Movable.{named_in, partition_in}
use Rattle.push_down_arms.proofs.contain.has_partition.Given as goal

abbrev pub invariant-loop-column : goal.invariant-loop-column
invariant-loop-column g l = partition_in (named l.c) (tree_of l.part).below ≡ named_in (named l.c) (forest l.column-iterator)
