-- `fingerprints::shape` meets its contract.
use native.Mathlib.Omega.{arith}
use Rattle.by_word.specs.Fingerprints.{shape}
use Rattle.by_word.proofs.fingerprints.shape.Goals as goal

pub returns : goal.returns
unfolding shape
returns c =
    (omega (arith, c.leads.ensures, c.leads-2.ensures), omega (arith, c.leads.ensures.1, c.leads-2.ensures.1))
