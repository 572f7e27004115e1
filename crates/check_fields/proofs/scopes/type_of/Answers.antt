-- `scopes::type_of` meets its contract.
use mathlib.Core.Path.{ap, ◌∙◌}
use Rattle.check_fields.specs.Seek.{type_found}
use Rattle.check_fields.proofs.Scoping.{type_named}
use Rattle.check_fields.proofs.scopes.type_of.Goals as goal

pub returns-in-Named : goal.returns-in-Named
returns-in-Named g c =
    c.type_found.ensures ∙ ap type_found c.seek_seen.ensures ∙ type_named _ c.in-Named.is (c.source_of.ensures _)
