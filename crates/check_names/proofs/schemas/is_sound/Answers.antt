-- `schemas::is_sound` meets its contract: the fields are counted, and then told apart.
use mathlib.Core.Path.{◌∙◌}
use native.Mathlib.Omega.{arith}
use Rattle.check_names.proofs.Singling.{rule_by_role}
use Rattle.check_names.proofs.Telling.{too_many, not_many}
use Rattle.check_names.proofs.schemas.is_sound.Goals as goal

pub returns-then-held_by-gt-MAX_FIELDS : goal.returns-then-held_by-gt-MAX_FIELDS
returns-then-held_by-gt-MAX_FIELDS g c =
    λ d p. too_many _ _ c.held_by.ensures c.if-held_by-gt-MAX_FIELDS.true ∙ rule_by_role c.args.role p d _

pub returns : goal.returns
returns g c =
    λ d p. c.all_single.ensures ∙ not_many _ _ c.held_by.ensures (omega arith) ∙ rule_by_role c.args.role p d _
