use native.Mathlib.Omega.{arith}
use mathlib.Core.Path.{◌∙◌}
use lib.ListN.{get_or}
use Rattle.conjuncts.specs.Items.{FALSE}
use Rattle.conjuncts.proofs.Listed.{walk_in, walk_item}
use Rattle.writing.specs.Maps.{map_of}
use Rattle.writing.proofs.Maps.{plan_maps_to, plan_over}
use Rattle.writing.proofs.Pushing.{pushed_plain}
use Rattle.push_down_base.proofs.Selecting.{walk_past}
use Rattle.push_down_base.proofs.WrittenRuns.{wrote_nothing}
use Rattle.push_down_arms.proofs.Scans.{copied_start, copied_next, copied_end}
use Rattle.push_down_arms.proofs.table_scan.copy_items.Goals as goal

pub loop-n-init : goal.loop-n-init
loop-n-init c =
    let none = c.put_nothing.ensures in (none.same, λ es h. copied_start (wrote_nothing none.bytes none.next))

pub copy_item-requires : goal.copy_item-requires
copy_item-requires c =
    let p = c.requires.known.0 in (
      omega arith,
      (
        record {
          mapping = map_of c.requires.known.1.plan;
          expr = _;
          pushed = pushed_plain (walk_item p.lists p.most c.items-n-items.ensures _ _ c.loop-n-test.true c.from.ensures);
        },
        plan_over c.requires.known.1.standing c.requires.shallow,
      ),
    )

pub loop-n-preserved : goal.loop-n-preserved
loop-n-preserved c = (
  c.copy_item.ensures.same ∙ c.loop-n.invariant.0,
  λ es h. let m = c.requires.known.0.most in
      let is = c.items-n-items.ensures in
      let i = c.loop-n.n-index in
      let t = c.loop-n-test.true in
      copied_next i c.args.out.now.long (walk_in h m is t) (c.loop-n.invariant.1 es h)
      (c.copy_item.ensures.wrote (map_of c.requires.known.1.plan) (plan_maps_to c.requires.known.1.standing)
      (get_or es i FALSE) (pushed_plain (walk_item h m is i _ t c.from.ensures))),
)

pub returns-clause-wrote : goal.returns-clause-wrote
returns-clause-wrote c =
    λ es h. copied_end c.loop-n.n-index (walk_past h c.requires.known.0.most c.items-n-items.ensures c.loop-n-test.false)
    (c.loop-n.invariant.1 es h)
