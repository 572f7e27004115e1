-- `simplify_predicates::belongs` meets its contract.
use Rattle.simplify_expressions.specs.Classes.{in_class}
use Rattle.simplify_expressions.proofs.simplify_predicates.belongs.Goals as goal

pub returns-in-Some : goal.returns-in-Some
unfolding in_class
returns-in-Some c = rw (c.in-Some.is, c.says.ensures, c.eq.ensures)
