-- `node::rewrite` meets its contract.
use Rattle.push_down_rewrite.proofs.Outcoming.{stays_outcomes, changed}
use Rattle.push_down_rewrite.proofs.node.rewrite.Goals as goal

pub returns-then-stays-clause-outcomes : goal.returns-then-stays-clause-outcomes
returns-then-stays-clause-outcomes c =
    λ w f h. stays_outcomes h (c.stays.ensures w f h) c.if-stays.true

pub returns-clause-changes : goal.returns-clause-changes
returns-clause-changes c =
    λ w f h. changed _ h (c.stays.ensures w f h) c.if-stays.false
