use mathlib.Core.Path.{sym}
use Rattle.plan.proofs.KindRanges.{expr_kind}
use Rattle.plan.proofs.kinds.is_expression.Goals as goal

pub returns : goal.returns
returns c =
    sym (expr_kind _)
