-- `schema_columns::add_schema` meets its contract. The measure is the number of records.
use Rattle.image.specs.Subtrees.{tree_of}
use Rattle.image.specs.Tree.{size}
use Rattle.utils.proofs.schema_columns.+add_schema.Given as goal

abbrev pub decreases-add_schema : goal.decreases-add_schema
decreases-add_schema g l = size (tree_of l.plan).below
