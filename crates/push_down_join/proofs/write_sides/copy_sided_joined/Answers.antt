-- `write_sides::copy_sided_joined` meets its contract: the first items are all items.
use Prim.Native.Nat.{◌-◌}
use native.Mathlib.Omega.{arith}
use lib.Seq.{take_all}
use Rattle.push_down_join.proofs.SideItems.{sides_length}
use Rattle.push_down_join.proofs.write_sides.copy_sided_joined.Goals as goal

pub returns-clause-wrote : goal.returns-clause-wrote
returns-clause-wrote g c =
    λ σ ns d g e es h. let k = c.args.c.now.len - 1 in
    let long = sides_length h c.requires.some_sided.most in
    rw (take_all k es (omega (arith, long))) at (c.copy_sided_first.ensures.wrote σ ns d g e es h)
