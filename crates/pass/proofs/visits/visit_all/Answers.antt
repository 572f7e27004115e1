use Rattle.std.proofs.Common.{refl, arith}
use Rattle.pass.proofs.Walked.{begun}
use Rattle.pass.proofs.visits.visit_all.Goals as goal

pub loop-w-init : goal.loop-w-init
loop-w-init c =
    (refl, record { m = refl; work = refl; levels = refl }, λ q w i. begun _ w i (omega arith))
