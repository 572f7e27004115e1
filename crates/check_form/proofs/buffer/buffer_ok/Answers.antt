-- `buffer::buffer_ok` meets its contract.
use Rattle.acceptance.specs.Check.{buffer_ok}
use Rattle.plan.proofs.Bools.{both}
use Rattle.check_form.proofs.buffer.buffer_ok.Goals as goal

pub returns : goal.returns
unfolding buffer_ok
returns c =
    simp both
