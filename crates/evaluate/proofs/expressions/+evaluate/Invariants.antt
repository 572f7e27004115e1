-- `expressions::evaluate` meets its contract. The measure is the number of records.
use Rattle.std.proofs.Common.{◌≤◌}
use Rattle.image.specs.Tree.{size}
use Rattle.image.specs.Subtrees.{forest, tree_of}
use Rattle.evaluate.proofs.Folding.{Done}
use Rattle.evaluate.proofs.expressions.+evaluate.Given as goal

abbrev pub decreases-evaluate : goal.decreases-evaluate
decreases-evaluate g l = size (tree_of l.tree).below

abbrev pub invariant-loop-child : goal.invariant-loop-child
invariant-loop-child g l =
    Done l.row.fields l.row.row.types.now l.row.row.values.now l.row.row.marks.now l.seen (tree_of l.tree) (forest l.child-iterator)
    × (size (forest l.child-iterator) ≤ size (tree_of l.tree).below)
