-- `split_conjunction::is_left_deep` meets its contract. The measure is the number of records.
use Rattle.image.specs.Tree.{size}
use Rattle.image.specs.Subtrees.{tree_of}
use Rattle.conjuncts.proofs.split_conjunction.+is_left_deep.Given as goal

abbrev pub decreases-is_left_deep : goal.decreases-is_left_deep
decreases-is_left_deep g l = size (tree_of l.tree).below
