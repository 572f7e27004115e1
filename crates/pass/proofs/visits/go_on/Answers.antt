-- `visits::go_on` meets its contract.
use mathlib.Core.Path.{refl, ap, ◌∙◌}
use Prim.Native.Nat.{◌+◌}
use native.Mathlib.Omega.{arith}
use Rattle.pass.proofs.Steps.{accepted_part, continued, byte_is}
use Rattle.pass.proofs.visits.go_on.Goals as goal

pub returns : goal.returns
returns c = (
  omega arith,
  λ q w i.
      let n = c.next_plan-next.ensures q (accepted_part w i) in
      continued c.requires.counted w i n refl refl (ap (λ b. c.args.w.changed + b) (c.from.ensures ∙ byte_is c.args.flag)),
)
