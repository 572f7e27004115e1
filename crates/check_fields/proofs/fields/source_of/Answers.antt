-- `fields::source_of` meets its contract.
use Rattle.check_fields.proofs.Typing.{source_column, source_plain}
use Rattle.check_fields.proofs.fields.source_of.Goals as goal

pub returns-then-label-eq-COLUMN : goal.returns-then-label-eq-COLUMN
returns-then-label-eq-COLUMN c = λ d. source_column _ d c.if-label-eq-COLUMN.true

pub returns : goal.returns
returns c = λ d. source_plain _ d c.if-label-eq-COLUMN.false c.plain_type.ensures
