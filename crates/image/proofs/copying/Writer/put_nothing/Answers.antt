-- `copying::Writer::put_nothing` meets its contract.
use native.Mathlib.Omega.{arith}
use Rattle.image.specs.Room.{cap}
use Rattle.image.proofs.copying.Writer.put_nothing.Goals as goal

pub returns-clause-next : goal.returns-clause-next
unfolding cap
returns-clause-next c = omega (arith, c.min-self.ensures)
