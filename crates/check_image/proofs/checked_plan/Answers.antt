-- `checked_plan` meets its contract: names first, then types, as the check has them.
use mathlib.Core.Path.{sym, ◌∙◌}
use Rattle.check_image.proofs.Later.{later_name, later_type, later_none}
use Rattle.check_image.proofs.checked_plan.Goals as goal

pub bad_names-requires : goal.bad_names-requires
bad_names-requires c = c.requires.number

pub returns-in-Some : goal.returns-in-Some
returns-in-Some c = later_name c.requires _ (sym c.in-Some.is ∙ c.bad_names.ensures)

pub bad_types-requires : goal.bad_types-requires
bad_types-requires c = record { first = c.requires.number; bytes = c.requires.bytes }

pub returns-in-Some-bad_types : goal.returns-in-Some-bad_types
returns-in-Some-bad_types c =
    later_type c.requires (sym c.in_default.is ∙ c.bad_names.ensures) _ (sym c.in-Some-bad_types.is ∙ c.bad_types.ensures)

pub returns : goal.returns
returns c = later_none c.requires (sym c.in_default.is ∙ c.bad_names.ensures) (sym c.in_default-bad_types.is ∙ c.bad_types.ensures)
