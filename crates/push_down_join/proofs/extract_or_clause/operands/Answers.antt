use Rattle.push_down_join.proofs.Extracting.{few_whole}
use Rattle.push_down_join.proofs.extract_or_clause.operands.Goals as goal

pub returns-in_err-left : goal.returns-in_err-left
returns-in_err-left g c = rw c.from_residual-in_err-left.ensures (λ e h. few_whole c.args.tree c.in_err-left.ensures e h)
