use lib.ListN.{get_or}
use Rattle.conjuncts.specs.Items.{FALSE}
use Rattle.conjuncts.proofs.Listed.{walk_in, walk_item}
use Rattle.push_down_base.proofs.Selecting.{all_at, walk_past}
use Rattle.push_down_arms.proofs.Counting.{counted_start, counted_next, counted_all}
use Rattle.push_down_arms.proofs.push_some.is_over.Goals as goal

pub loop-n-init : goal.loop-n-init
loop-n-init c = λ es p h o k. counted_start c.empty-r.ensures

pub add_replaced-r-requires-clause-present : goal.add_replaced-r-requires-clause-present
add_replaced-r-requires-clause-present c =
    let p = c.requires.known.0 in (
      record { expr = _; item = walk_item p.lists p.most c.items-n-items.ensures _ _ c.loop-n-test.true c.from.ensures },
      c.requires.known.1,
    )

pub loop-n-preserved : goal.loop-n-preserved
loop-n-preserved c =
    λ es p h o k. let m = c.requires.known.0.most in
    let is = c.items-n-items.ensures in
    let i = c.loop-n.n-index in
    let t = c.loop-n-test.true in
    let lt = walk_in h m is t in
    let w = c.loop-n.invariant es p h o k in
    counted_next i lt w
    (c.add_replaced-r.ensures (get_or es i FALSE) p w.done (walk_item h m is i _ t c.from.ensures) (all_at i o lt) k w.counts)

pub returns : goal.returns
returns c =
    λ es p h o k. counted_all c.loop-n.n-index (walk_past h c.requires.known.0.most c.items-n-items.ensures c.loop-n-test.false)
    c.is_too_long.ensures.len (c.loop-n.invariant es p h o k)
