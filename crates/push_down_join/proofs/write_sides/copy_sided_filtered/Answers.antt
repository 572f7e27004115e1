-- `write_sides::copy_sided_filtered` meets its contract.
use native.Mathlib.Omega.{arith}
use Rattle.writing.proofs.Written.{wrote_filtered}
use Rattle.writing.proofs.Pushing.{filters_none}
use Rattle.push_down_join.proofs.SideItems.{sides_length}
use Rattle.image.proofs.Room.{cap_le}
use Rattle.push_down_join.proofs.write_sides.copy_sided_filtered.Goals as goal

pub returns-then-c-eq0-clause-wrote : goal.returns-then-c-eq0-clause-wrote
returns-then-c-eq0-clause-wrote g c =
    λ σ ns d g es h p k.
    rw (filters_none es p (omega (arith, sides_length h c.requires.some_sided.most, c.if-c-eq0.true)), ← k) c.copy_tree.ensures.wrote

pub returns-clause-wrote : goal.returns-clause-wrote
returns-clause-wrote g c =
    λ σ ns d g es h p k. wrote_filtered c.args.out.now.long es p
    (λ z. omega (arith, sides_length h c.requires.some_sided.most, c.if-c-eq0.false)) c.put_kind.ensures.put
    (λ e rest same. c.copy_sided_joined.ensures.wrote σ ns d g e rest (rw same at h))
    (rw (← k) c.copy_tree-2.ensures.wrote)

pub returns-then-c-eq0-clause-counted : goal.returns-then-c-eq0-clause-counted
returns-then-c-eq0-clause-counted g c = rw c.copy_tree.ensures.wrote.next (cap_le _)

pub returns-clause-counted : goal.returns-clause-counted
returns-clause-counted g c = rw c.copy_tree-2.ensures.wrote.next (cap_le _)
