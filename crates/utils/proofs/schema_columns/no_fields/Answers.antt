-- `schema_columns::no_fields` meets its contract.
use Rattle.utils.proofs.Named.{names_none}
use Rattle.utils.proofs.schema_columns.no_fields.Goals as goal

pub returns : goal.returns
returns c = names_none c.new.ensures
