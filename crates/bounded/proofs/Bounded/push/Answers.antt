use Rattle.std.proofs.Common.{rules}
use Rattle.bounded.proofs.Laws.{added, not_added}
use Rattle.bounded.proofs.Bounded.push.Goals as goal

pub returns-then-self : goal.returns-then-self
returns-then-self g c = λ xs h. added c.args.self.now c.args.x xs h (search rules) c.if-self.true

pub returns-else-self : goal.returns-else-self
returns-else-self g c = λ xs h. not_added c.args.self.now c.args.x xs h (search rules) c.if-self.false
