use Rattle.std.proofs.Common.{rules}
use Rattle.bounded.proofs.Laws.{is_long, is_over}
use Rattle.bounded.proofs.Bounded.is_too_long.Goals as goal

pub returns-clause-holds : goal.returns-clause-holds
returns-clause-holds g c = λ xs h. (λ t. is_long h (search rules), λ l. search (rules, is_over h l))
