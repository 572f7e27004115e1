-- `comparing::tested` meets its contract.
use Rattle.evaluate.proofs.TruthLaws.{and_is}
use Rattle.evaluate.proofs.comparing.tested.Goals as goal

pub returns-in-IsUnknown : goal.returns-in-IsUnknown
returns-in-IsUnknown c = rw (c.in-IsUnknown.is, c.is_true-in-IsUnknown.ensures, c.is_false-in-IsUnknown.ensures, and_is)
