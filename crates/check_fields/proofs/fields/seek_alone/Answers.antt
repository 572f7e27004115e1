-- `fields::seek_alone` meets its contract.
use mathlib.Core.Path.{refl}
use mathlib.Core.List.{[]}
use Rattle.check_fields.proofs.Seeking.{told_none}
use Rattle.check_fields.proofs.fields.seek_alone.Goals as goal

pub returns-in-Break-Named : goal.returns-in-Break-Named
returns-in-Break-Named g c = told_none [] (c.seek_made.ensures []) c.in-Break-Named.is c.in-Break-Named.field-0-is refl
