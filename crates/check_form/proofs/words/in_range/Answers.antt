-- `words::in_range` meets its contract.
use Rattle.plan.specs.Words.{in_range}
use Rattle.plan.proofs.Bools.{both}
use Rattle.check_form.proofs.words.in_range.Goals as goal

pub returns : goal.returns
unfolding in_range
returns c =
    both _ _
