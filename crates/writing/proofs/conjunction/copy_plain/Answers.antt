-- `conjunction::copy_plain` meets its contract.
use native.Mathlib.Omega.{arith}
use Rattle.conjuncts.proofs.Standing.{tree_found}
use Rattle.writing.proofs.Maps.{deep_low, found_deep}
use Rattle.writing.proofs.Written.{wrote_false}
use Rattle.image.proofs.Room.{cap_le}
use Rattle.writing.proofs.conjunction.copy_plain.Goals as goal

pub copy_tree-requires : goal.copy_tree-requires
copy_tree-requires c =
    let p = c.requires.present in
    let low = deep_low _ c.requires.shallow (found_deep (c.in-Some.ensures p.expr p.item)) in
    (omega arith, low)

pub returns-in-Some-clause-wrote : goal.returns-in-Some-clause-wrote
returns-in-Some-clause-wrote c =
    λ e h. rw (tree_found (c.in-Some.ensures e h)) at c.copy_tree.ensures.wrote

pub returns-in-None-clause-wrote : goal.returns-in-None-clause-wrote
returns-in-None-clause-wrote c =
    λ e h. rw (c.in-None.ensures e h) (wrote_false c.args.out.now.long c.put_kind.ensures.put)

pub returns-in-Some-clause-counted : goal.returns-in-Some-clause-counted
returns-in-Some-clause-counted c = rw c.copy_tree.ensures.wrote.next (cap_le _)

pub returns-in-None-clause-counted : goal.returns-in-None-clause-counted
returns-in-None-clause-counted c = rw c.put_kind.ensures.put.next (cap_le _)
