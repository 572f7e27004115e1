-- `simplify_predicates::same_value` meets its contract.
use Rattle.std.proofs.Common.{rules}
use Rattle.simplify_expressions.proofs.Sides.{and_is}
use Rattle.simplify_expressions.proofs.simplify_predicates.same_value.Goals as goal

pub returns : goal.returns
returns c = rw (← c.kind_of-2.ensures, ← c.kind_of.ensures, ← c.code_of-y.ensures, ← c.code_of-x.ensures, and_is, and_is) (search rules)
