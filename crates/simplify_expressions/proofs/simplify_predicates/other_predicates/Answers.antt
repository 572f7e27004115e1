-- `simplify_predicates::other_predicates` meets its contract.
use Rattle.conjuncts.proofs.Listed.{lists_none}
use Rattle.simplify_expressions.proofs.Classed.{others_are}
use Rattle.simplify_expressions.proofs.simplify_predicates.other_predicates.Goals as goal

pub returns : goal.returns
returns c =
    λ es h. rw (← others_are es) (c.select_class.ensures es _ h (lists_none c.empty.ensures))
