-- `fingerprints::mixed` meets its contract.
use mathlib.Core.Path.{refl}
use native.Mathlib.Omega.{arith}
use Rattle.by_word.specs.Fingerprints.{mixed}
use Rattle.by_word.proofs.fingerprints.mixed.Goals as goal

pub returns : goal.returns
unfolding mixed
returns c =
    (refl, omega arith)
