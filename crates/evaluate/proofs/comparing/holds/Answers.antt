-- `comparing::holds` meets its contract.
use Rattle.evaluate.proofs.TruthLaws.{same_word}
use Rattle.evaluate.proofs.comparing.holds.Goals as goal

pub returns-in-Eq : goal.returns-in-Eq
returns-in-Eq c = rw (c.in-Eq.is, same_word _ _ c.ranges.a c.ranges.b)

pub returns-in-NotEq : goal.returns-in-NotEq
returns-in-NotEq c = rw (c.in-NotEq.is, same_word _ _ c.ranges.a c.ranges.b)
