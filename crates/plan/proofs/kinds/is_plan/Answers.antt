use mathlib.Core.Path.{sym}
use Rattle.plan.proofs.KindRanges.{plan_kind}
use Rattle.plan.proofs.kinds.is_plan.Goals as goal

pub returns : goal.returns
returns c =
    sym (plan_kind _)
