-- `simplify_predicates::side_at` meets its contract.
use Rattle.std.proofs.Common.{refl}
use Rattle.simplify_expressions.specs.Seen.{side_of?}
use Rattle.simplify_expressions.proofs.Comparing.{unwrapped}
use Rattle.simplify_expressions.proofs.RightSides.{right_unwrapped}
use Rattle.simplify_expressions.proofs.simplify_predicates.side_at.Goals as goal

pub returns-clause-right : goal.returns-clause-right
returns-clause-right c =
    let k = c.requires.known in
    rw (c.unwrap_or.ensures, c.null_of.ensures) (right_unwrapped _ c.compared_at.result _ (c.compared_at.ensures k.exprs k.lists) refl)

pub returns-clause-is : goal.returns-clause-is
unfolding side_of?
returns-clause-is c =
    λ es h. rw (c.unwrap_or.ensures, c.null_of.ensures, ← c.compared_at.ensures es h) (unwrapped c.compared_at.result _ refl)
