-- `logic::Truth::and` meets its contract.
use Rattle.plan.specs.Lists.{◌&◌}
use Rattle.evaluate.proofs.TruthLaws.{as_truth}
use Rattle.evaluate.proofs.logic.Truth.and.Goals as goal

pub returns-in-True-default : goal.returns-in-True-default
unfolding ◌&◌
returns-in-True-default c = rw (c.in-True-default.is-0, as_truth)

pub returns-in-False-default : goal.returns-in-False-default
unfolding ◌&◌
returns-in-False-default c = rw c.in-False-default.is-0

pub returns-in-Unknown-False : goal.returns-in-Unknown-False
unfolding ◌&◌
returns-in-Unknown-False c = rw (c.in-Unknown-False.is-0, c.in-Unknown-False.is-1)

pub returns-in-Unknown-True : goal.returns-in-Unknown-True
unfolding ◌&◌
returns-in-Unknown-True c = rw (c.in-Unknown-True.is-0, c.in-Unknown-True.is-1)

pub returns-in-Unknown-Unknown : goal.returns-in-Unknown-Unknown
unfolding ◌&◌
returns-in-Unknown-Unknown c = rw (c.in-Unknown-Unknown.is-0, c.in-Unknown-Unknown.is-1)
