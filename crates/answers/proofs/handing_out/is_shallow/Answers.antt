-- `handing_out::is_shallow` meets its contract.
use mathlib.Core.Path.{◌∙◌}
use native.Mathlib.Omega.{arith}
use Rattle.answers.proofs.Depths.{flat_shallow}
use Rattle.answers.proofs.handing_out.is_shallow.Goals as goal

pub returns : goal.returns
returns c =
    λ t rest e f. c.are_shallow.ensures ∙ flat_shallow t c.args.n c.args.work.now rest e (omega (arith, c.requires)) f
