-- `lists::empty` meets its contract.
use Rattle.bounded.proofs.Laws.{none_is}
use Rattle.conjuncts.proofs.lists.empty.Goals as goal

pub returns : goal.returns
returns c = none_is c.new.ensures
