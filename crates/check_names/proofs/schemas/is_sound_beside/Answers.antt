-- `schemas::is_sound_beside` meets its contract: the fields are counted, and then those of the other input told apart.
use mathlib.Core.Path.{◌∙◌}
use native.Mathlib.Omega.{arith}
use Rattle.plan.specs.declared.field_sources.Role.TheVariants.{Joins}
use Rattle.image.specs.Subtrees.{forest}
use Rattle.check_fields.specs.Fields.{inputs}
use Rattle.check_names.specs.Singles.{clashing}
use Rattle.check_names.proofs.Singling.{rule_by_role, beside_own, own_few}
use Rattle.check_names.proofs.Telling.{too_many, not_many}
use Rattle.check_names.proofs.schemas.is_sound_beside.Goals as goal

pub returns-then-held_by-gt-MAX_FIELDS : goal.returns-then-held_by-gt-MAX_FIELDS
returns-then-held_by-gt-MAX_FIELDS g c =
    λ d k. too_many clashing _ c.held_by.ensures c.if-held_by-gt-MAX_FIELDS.true ∙ rule_by_role Joins _ d _

pub returns : goal.returns
returns g c =
    λ d k. (rw c.own_input.ensures at c.all_held.ensures)
    ∙ beside_own _ (inputs (forest c.args.trees)) (own_few c.args.p) k
    ∙ not_many clashing _ c.held_by.ensures (omega arith) ∙ rule_by_role Joins _ d _
