-- `push_down_all_join::filter_of` meets its contract.
use Rattle.push_down_join.proofs.JoinParts.{join_some, last_filter}
use Rattle.push_down_join.proofs.push_down_all_join.filter_of.Goals as goal

pub returns : goal.returns
returns c = λ k l r on f h. rw c.then_some.ensures (last_filter c.in_ok-last.ensures.1 h c.kind.ensures)

pub returns-in_err-last : goal.returns-in_err-last
returns-in_err-last c = λ k l r on f h. absurd (join_some c.args.plan h c.in_err-last.ensures)
