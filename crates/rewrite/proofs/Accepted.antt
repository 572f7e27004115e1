-- Which plans are accepted, as a test.
use mathlib.Core.Bool.{Bool}
use Rattle.plan.specs.Lists.{◌&◌}
use Rattle.plan.specs.Syntax.{Plan}
use Rattle.rewrite.specs.Limits.{within_limits}
use Rattle.acceptance.specs.NamesRule.{names_rule}
use Rattle.acceptance.proofs.TypesRule.{types_ok}

-- the tests of the places Buffer (the records), Depth, Form (the lists), Name and Type
unfoldable pub accepted : Plan → Bool
accepted p = within_limits p & (names_rule p & types_ok p)
