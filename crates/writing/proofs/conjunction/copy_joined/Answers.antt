-- `conjunction::copy_joined` meets its contract: the first items are all items.
use Prim.Native.Nat.{◌-◌}
use native.Mathlib.Omega.{arith}
use lib.Seq.{take_all}
use Rattle.writing.proofs.Maps.{over_at}
use Rattle.writing.proofs.Pushing.{pushes_length}
use Rattle.writing.proofs.conjunction.copy_joined.Goals as goal

pub copy_first-requires : goal.copy_first-requires
copy_first-requires g c =
    let p = c.requires in
    (omega arith, (p.some, ((p.len_nonzero, omega arith), over_at p.over (omega (arith, p.some.most)))))

pub returns-clause-wrote : goal.returns-clause-wrote
returns-clause-wrote g c =
    λ σ g e es h. let k = c.args.c.len - 1 in
    let long = pushes_length h c.requires.some.most in
    rw (take_all k es (omega (arith, long))) at (c.copy_first.ensures.wrote σ g e es h)
