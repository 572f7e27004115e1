-- What a well-formed plan keeps.
use mathlib.Core.Path.{◌≡◌}
use mathlib.Core.Bool.{true}
use Rattle.plan.specs.Syntax.{Plan}
use Rattle.acceptance.specs.Accepted.{WellFormed}
use Rattle.acceptance.specs.NamesRule.{names_rule}
use Rattle.acceptance.proofs.TypesRule.{types_ok}
use Rattle.acceptance.proofs.NamesMarks.{names_iff}
use Rattle.acceptance.proofs.TypesMarks.{types_iff}

-- the name and type rules, in the form that the row theorem takes them
pub well_formed_rules : (p : Plan) → WellFormed p → (names_rule p ≡ true) × (types_ok p ≡ true)
well_formed_rules p w = ((names_iff p).0 w.names, (types_iff p).0 w.types)
