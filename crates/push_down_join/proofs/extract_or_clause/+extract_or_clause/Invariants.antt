-- `extract_or_clause::extract_or_clause` meets its contract. The measure is the number of records.
use Rattle.image.specs.Subtrees.{tree_of}
use Rattle.image.specs.Tree.{size}
use Rattle.push_down_join.proofs.extract_or_clause.+extract_or_clause.Given as goal

abbrev pub decreases-extract_or_clause : goal.decreases-extract_or_clause
decreases-extract_or_clause g l = size (tree_of l.tree).below
