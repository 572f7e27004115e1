use Rattle.push_down_join.proofs.JoinScope.{join_two}
use Rattle.push_down_join.proofs.column_checker.inputs.Goals as goal

pub returns-in-None : goal.returns-in-None
returns-in-None g c = λ k l r on f h. absurd (join_two c.args.plan k l r on f h c.in-None.ensures)
