-- `has_all_column_refs::add_column` meets its contract.
use mathlib.Core.Path.{◌∙◌}
use Rattle.utils.proofs.Named.{names_listed}
use Rattle.utils.proofs.has_all_column_refs.add_column.Goals as goal

pub returns : goal.returns
returns c = λ ns h held. c.column.ensures ns (c.items.ensures ∙ names_listed h c.requires) held
