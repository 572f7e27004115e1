-- `conjunction::copy_predicate` meets its contract.
use native.Mathlib.Omega.{arith}
use Rattle.writing.proofs.Maps.{over_at}
use Rattle.writing.proofs.Pushing.{pushes_length}
use Rattle.writing.proofs.conjunction.copy_predicate.Goals as goal

pub copy_item-requires : goal.copy_item-requires
copy_item-requires g c =
    let p = c.requires.predicated in
    (omega arith, (record { mapping = p.mapping; expr = p.expr; pushed = p.predicate.item _ c.in-Some.is }, over_at c.requires.over (omega arith)))

pub copy_joined-requires : goal.copy_joined-requires
copy_joined-requires g c =
    let p = c.requires.predicated in
    let k = p.predicate.list c.in-None.is in
    (omega arith, (record { mapping = p.mapping; exprs = _; pushes = k.pushes; most = p.most }, (omega (arith, pushes_length k.pushes p.most), c.requires.over)))

pub returns-in-Some-clause-wrote : goal.returns-in-Some-clause-wrote
returns-in-Some-clause-wrote g c =
    λ σ g e h. c.copy_item.ensures.wrote σ g e (h.item _ c.in-Some.is)

pub returns-in-None-clause-wrote : goal.returns-in-None-clause-wrote
returns-in-None-clause-wrote g c =
    λ σ g e h. let k = h.list c.in-None.is in
    rw k.is (c.copy_joined.ensures.wrote σ g k.first k.others k.pushes)
