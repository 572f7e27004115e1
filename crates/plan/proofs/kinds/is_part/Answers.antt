use mathlib.Core.Path.{sym}
use Rattle.plan.proofs.KindRanges.{part_kind}
use Rattle.plan.proofs.kinds.is_part.Goals as goal

pub returns : goal.returns
returns c =
    sym (part_kind _)
