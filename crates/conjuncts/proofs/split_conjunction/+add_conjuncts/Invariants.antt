-- `split_conjunction::add_conjuncts` meets its contract. The measure is the number of records.
use Rattle.image.specs.Tree.{size}
use Rattle.image.specs.Subtrees.{tree_of}
use Rattle.conjuncts.proofs.split_conjunction.+add_conjuncts.Given as goal

abbrev pub decreases-add_conjuncts : goal.decreases-add_conjuncts
decreases-add_conjuncts g l = size (tree_of l.tree).below
