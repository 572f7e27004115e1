-- `places::place_type` meets its contract.
use mathlib.Core.Path.{ap, ◌∙◌}
use Rattle.check_fields.specs.Seek.{type_found}
use Rattle.check_types.proofs.ByPlacing.{seek_place}
use Rattle.check_types.proofs.places.place_type.Goals as goal

pub returns : goal.returns
returns g c = c.type_found.ensures ∙ ap type_found c.seek_seen.ensures ∙ seek_place c.args.k _
