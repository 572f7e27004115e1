-- `call_pass::hand_over_walk` meets its contract.
use native.Mathlib.Omega.{arith}
use Rattle.call_pass.proofs.Reports.{no_room}
use Rattle.call_pass.proofs.call_pass.hand_over_walk.Goals as goal

pub returns-then-out-w : goal.returns-then-out-w
returns-then-out-w c =
    (omega arith, λ x h. no_room _ h c.if-out-w.true)
