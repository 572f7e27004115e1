-- `conjunction::copy_changed` meets its contract.
use Rattle.std.proofs.Common.{rules}
use Rattle.conjuncts.proofs.Standing.{tree_found}
use Rattle.writing.proofs.Maps.{found_deep, over_low}
use Rattle.writing.proofs.Pushing.{false_stays}
use Rattle.writing.proofs.Written.{wrote_false}
use Rattle.image.proofs.Room.{cap_le}
use Rattle.writing.proofs.conjunction.copy_changed.Goals as goal

pub replace_cols_by_name-requires : goal.replace_cols_by_name-requires
replace_cols_by_name-requires g c =
    let p = c.requires.present in
    let low = over_low c.requires.over (found_deep (c.in-Some.ensures p.expr p.item)) in
    search rules

pub returns-in-Some-clause-wrote : goal.returns-in-Some-clause-wrote
returns-in-Some-clause-wrote g c =
    λ σ g e h. rw (← g.is e) (rw (tree_found (c.in-Some.ensures e h)) at c.replace_cols_by_name.ensures.wrote)

pub returns-in-None-clause-wrote : goal.returns-in-None-clause-wrote
returns-in-None-clause-wrote g c =
    λ σ g e h. rw (c.in-None.ensures e h, false_stays σ) (wrote_false c.args.out.now.long c.put_kind.ensures.put)

pub returns-in-Some-clause-counted : goal.returns-in-Some-clause-counted
returns-in-Some-clause-counted g c = rw c.replace_cols_by_name.ensures.wrote.next (cap_le _)

pub returns-in-None-clause-counted : goal.returns-in-None-clause-counted
returns-in-None-clause-counted g c = rw c.put_kind.ensures.put.next (cap_le _)
