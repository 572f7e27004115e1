use Rattle.bounded.proofs.Laws.{holds_none}
use Rattle.bounded.proofs.Bounded.new.Goals as goal

pub returns : goal.returns
returns g c = holds_none _
