use mathlib.Core.Path.{refl}
use mathlib.Core.Bool.{true}
use native.Mathlib.Omega.{arith}
use Rattle.plan.specs.Lists.{put}
use Rattle.plan.proofs.Lists.{keep_all}
use Rattle.conjuncts.proofs.Listed.{lists_add, walk_in, walk_item}
use Rattle.conjuncts.proofs.Kept.{kept_next, kept_end}
use Rattle.push_down_base.proofs.Selecting.{walk_past}
use Rattle.push_down_arms.proofs.table_scan.extend.Goals as goal

pub add-r-requires : goal.add-r-requires
add-r-requires c =
    let p = c.requires.known in omega
    (arith, (walk_item p.lists p.most c.items-n-items.ensures _ _ c.loop-n-test.true c.from.ensures).small)

pub loop-n-preserved : goal.loop-n-preserved
unfolding put
loop-n-preserved c =
    λ s ds es h k. let p = c.requires.known in
    let is = c.items-n-items.ensures in
    let t = c.loop-n-test.true in
    let i = c.loop-n.n-index in
    kept_next _ es i (c.loop-n.invariant s ds es h k) (walk_in k p.most is t) true refl (walk_item k p.most is i _ t c.from.ensures)
    (λ u fs e l item. lists_add _ l item c.add-r.ensures)

pub returns : goal.returns
returns c =
    λ s ds es h k. let all = kept_end _ es c.loop-n.n-index (c.loop-n.invariant s ds es h k)
    (walk_past k c.requires.known.most c.items-n-items.ensures c.loop-n-test.false) in
    rw (keep_all es) at all
