use Prim.Native.Nat.{◌-◌}
use native.Mathlib.Omega.{arith}
use lib.ListN.{get_or, take}
use Rattle.rewrite.specs.Utils.{conjoin}
use mathlib.Core.List.{◌∷◌}
use Rattle.conjuncts.specs.Items.{FALSE}
use Rattle.writing.proofs.Maps.{over_at}
use Rattle.writing.proofs.Written.{wrote_and}
use Rattle.writing.proofs.Pushing.{pushes_length, pushes_room, pushes_at, one_of, conjoin_one, conjoin_more}
use Rattle.writing.proofs.conjunction.+copy_first.Goals as goal

pub item_at-item-requires : goal.item_at-item-requires
item_at-item-requires g t c =
    let p = c.requires.some in omega (arith, pushes_room p.pushes p.most, c.requires.k_nonzero)

pub copy_item-requires : goal.copy_item-requires
copy_item-requires g t c =
    let one = one_of c.requires.some _ _ (omega (arith, c.requires.k_nonzero)) c.item_at-item.ensures in
    (omega arith, (one, over_at c.requires.over (omega arith)))

pub returns-then-last-eq0-clause-wrote : goal.returns-then-last-eq0-clause-wrote
returns-then-last-eq0-clause-wrote g t c =
    λ σ g e es h. let k = c.args.k - 1 in
    rw (conjoin_one e es k c.if-last-eq0.true)
    (c.copy_item.ensures.wrote σ g (get_or (e ∷ es) k FALSE)
    (pushes_at h c.requires.some.most k _ (omega (arith, c.requires.k_nonzero)) c.item_at-item.ensures))

pub copy_item-requires-2 : goal.copy_item-requires-2
copy_item-requires-2 g t c =
    let one = one_of c.requires.some _ _ (omega (arith, c.requires.k_nonzero)) c.item_at-item.ensures in
    (omega arith, (one, over_at c.requires.over (omega arith)))

pub returns-clause-wrote : goal.returns-clause-wrote
returns-clause-wrote g t c =
    λ σ g e es h. let k = c.args.k - 1 in
    let long = pushes_length h c.requires.some.most in
    rw (conjoin_more e es k c.if-last-eq0.false
    (omega (arith, c.requires.k_nonzero, long)))
    (wrote_and c.args.out.now.long (conjoin e (take (k - 1) es)) (get_or (e ∷ es) k FALSE)
    c.put_kind.ensures.put
    (c.copy_first.ensures.wrote σ g e es h)
    (c.copy_item-2.ensures.wrote σ g (get_or (e ∷ es) k FALSE)
    (pushes_at h c.requires.some.most k _ (omega (arith, c.requires.k_nonzero))
    c.item_at-item.ensures)))
