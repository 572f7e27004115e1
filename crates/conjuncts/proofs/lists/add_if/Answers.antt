-- `lists::add_if` meets its contract.
use Rattle.conjuncts.proofs.Listed.{lists_put}
use Rattle.conjuncts.proofs.lists.add_if.Goals as goal

pub returns : goal.returns
returns c =
    λ s es e h k. lists_put _ c.args.yes h k c.push_if.ensures
