use Prim.Native.Nat.{◌-◌}
use native.Mathlib.Omega.{arith}
use lib.ListN.{get_or, take}
use mathlib.Core.List.{◌∷◌}
use Rattle.rewrite.specs.Utils.{conjoin}
use Rattle.conjuncts.specs.Items.{FALSE}
use Rattle.writing.proofs.Maps.{over_at}
use Rattle.writing.proofs.Written.{wrote_and}
use Rattle.writing.proofs.Pushing.{conjoin_one, conjoin_more}
use Rattle.push_down_join.proofs.SideItems.{sides_length, sides_room, sides_at, one_sided_of}
use Rattle.push_down_join.proofs.write_sides.+copy_sided_first.Goals as goal

pub item_at-item-requires : goal.item_at-item-requires
item_at-item-requires g t c =
    let p = c.requires.some_sided in omega (arith, sides_room p.sides p.most, c.requires.k_nonzero)

pub copy_sided-requires : goal.copy_sided-requires
copy_sided-requires g t c =
    let one = one_sided_of c.requires.some_sided _ _ (omega (arith, c.requires.k_nonzero)) c.item_at-item.ensures in
    (omega arith, (one, (c.requires.len_le_max_fields, over_at c.requires.over (omega arith))))

pub returns-then-last-eq0-clause-wrote : goal.returns-then-last-eq0-clause-wrote
returns-then-last-eq0-clause-wrote g t c =
    λ σ ns d g e es h. let k = c.args.k - 1 in
    rw (conjoin_one e es k c.if-last-eq0.true)
    (c.copy_sided.ensures.wrote σ g.maps ns d g.names g.masks (get_or (e ∷ es) k FALSE)
    (sides_at h c.requires.some_sided.most k _ (omega (arith, c.requires.k_nonzero)) c.item_at-item.ensures))

pub copy_sided-requires-2 : goal.copy_sided-requires-2
copy_sided-requires-2 g t c =
    let one = one_sided_of c.requires.some_sided _ _ (omega (arith, c.requires.k_nonzero)) c.item_at-item.ensures in
    (omega arith, (one, (c.requires.len_le_max_fields, over_at c.requires.over (omega arith))))

pub returns-clause-wrote : goal.returns-clause-wrote
returns-clause-wrote g t c =
    λ σ ns d g e es h. let k = c.args.k - 1 in
    let long = sides_length h c.requires.some_sided.most in
    rw (conjoin_more e es k c.if-last-eq0.false (omega (arith, c.requires.k_nonzero, long)))
    (wrote_and c.args.out.now.long (conjoin e (take (k - 1) es)) (get_or (e ∷ es) k FALSE) c.put_kind.ensures.put
    (c.copy_sided_first.ensures.wrote σ ns d g e es h)
    (c.copy_sided-2.ensures.wrote σ g.maps ns d g.names g.masks (get_or (e ∷ es) k FALSE)
    (sides_at h c.requires.some_sided.most k _ (omega (arith, c.requires.k_nonzero)) c.item_at-item.ensures)))
