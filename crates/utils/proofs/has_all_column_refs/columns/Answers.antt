-- `has_all_column_refs::columns` meets its contract.
use mathlib.Core.Path.{◌∙◌}
use Rattle.utils.proofs.Named.{names_listed}
use Rattle.utils.proofs.has_all_column_refs.columns.Goals as goal

pub returns : goal.returns
returns g c = λ ns h held. c.columns_of.ensures ns (c.items.ensures ∙ names_listed h c.requires) held
