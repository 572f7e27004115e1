-- `extract_or_clause::copy_clause` meets its contract. The measure is the number of records.
use Rattle.image.specs.Subtrees.{tree_of}
use Rattle.image.specs.Tree.{size}
use Rattle.push_down_join.proofs.extract_or_clause.+copy_clause.Given as goal

abbrev pub decreases-copy_clause : goal.decreases-copy_clause
decreases-copy_clause g l = size (tree_of l.tree).below
