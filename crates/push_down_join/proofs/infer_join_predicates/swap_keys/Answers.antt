use Prim.Native.Nat.{◌<◌}
use native.Mathlib.Omega.{arith}
use lib.ListN.{length}
use Rattle.push_down_join.proofs.Growing.{items_at, items_count, swap_start, swap_step, swap_end, unpartnered}
use Rattle.push_down_join.proofs.infer_join_predicates.swap_keys.Goals as goal

pub loop-i-init : goal.loop-i-init
loop-i-init g c = λ ns k. rw c.empty-alone.ensures (swap_start c.no_fields-to.ensures)

pub loop-i-preserved : goal.loop-i-preserved
loop-i-preserved g c =
    λ ns k.
    let le = c.requires in
    let e = c.items-x-items.ensures in
    let lt : c.loop-i.i < length ns = omega (arith, items_count k le e, c.loop-i-test.true) in
    swap_step c.partner-found.result _ lt (items_at k le e c.loop-i.i) c.partner-found.ensures
    (unpartnered c.partner-found.result _ c.is_none.ensures) (rw c.unwrap_or.ensures at c.push.ensures) c.mark-alone.ensures
    (c.loop-i.invariant ns k)

pub returns : goal.returns
returns g c =
    λ ns k. swap_end (omega (arith, items_count k c.requires c.items-x-items.ensures, c.loop-i-test.false)) (c.loop-i.invariant ns k)
