-- `trees::end` meets its contract. The measure is the number of records.
use Rattle.image.specs.Tree.{size}
use Rattle.image.specs.Subtrees.{tree_of}
use Rattle.image.proofs.trees.Stretch.+end.Given as goal

abbrev pub decreases-end : goal.decreases-end
decreases-end g l = size (tree_of l.self).below
