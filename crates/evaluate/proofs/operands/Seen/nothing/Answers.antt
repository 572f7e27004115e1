-- `operands::Seen::nothing` meets its contract.
use mathlib.Core.Path.{refl}
use Rattle.plan.specs.Lists.{any}
use Rattle.evaluate.proofs.operands.Seen.nothing.Goals as goal

pub returns : goal.returns
unfolding any
returns c =
    rw c.null_of-none.ensures (record {
      right = record { first = refl; second = refl; third = refl };
      is = record { count = refl; first = refl; second = refl; third = refl; equal = refl; null = refl };
    })
