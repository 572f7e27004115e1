use borrow.Author.Rules.{rules}
use mathlib.Core.Path.{sym, ap}
use mathlib.Core.Bool.{not}
use Rattle.conjuncts.specs.Items.{Present}
use Rattle.conjuncts.proofs.Listed.{lists_none, walk_item, walk_in}
use Rattle.conjuncts.proofs.Kept.{kept_start, kept_next, kept_end}
use Rattle.push_down_base.proofs.Selecting.{walk_past}
use Rattle.push_down_base.proofs.parting.partition.Goals as goal

pub loop-item-init : goal.loop-item-init
loop-item-init g c =
    λ s es t h k. (kept_start _ es (lists_none c.empty-passed.ensures), kept_start _ es (lists_none c.empty-others.ensures))

pub test-yes-requires : goal.test-yes-requires
test-yes-requires g c =
    let p = c.requires.known in
    let k : Present c.requires.image c.from-n.result =
    record { expr = _; item = walk_item p.lists p.most c.items-item-items.ensures _ _ c.loop-item-test.true c.from-n.ensures } in
    search (rules, c.requires.callable c.from-n.result k)

pub add_if-passed-requires : goal.add_if-passed-requires
add_if-passed-requires g c =
    let p = c.requires.known in (walk_item p.lists p.most c.items-item-items.ensures _ _ c.loop-item-test.true c.from-n.ensures).small

pub add_if-others-requires : goal.add_if-others-requires
add_if-others-requires g c =
    let p = c.requires.known in (walk_item p.lists p.most c.items-item-items.ensures _ _ c.loop-item-test.true c.from-n.ensures).small

pub loop-item-preserved : goal.loop-item-preserved
loop-item-preserved g c =
    λ s es t h k. let p = c.requires.known in
    let is = c.items-item-items.ensures in
    let i = c.loop-item.item-index in
    let w = c.loop-item.invariant s es t h k in
    let lt = walk_in h p.most is c.loop-item-test.true in
    let item = walk_item h p.most is i _ c.loop-item-test.true c.from-n.ensures in
    let e = sym (k.tells i _ _ lt item c.test-yes.ensures) in (
      kept_next t es i w.0 lt _ e item c.add_if-passed.ensures,
      kept_next (λ e. not (t e)) es i w.1 lt _ (ap not e) item c.add_if-others.ensures,
    )

pub returns : goal.returns
returns g c =
    λ s es t h k. let w = c.loop-item.invariant s es t h k in
    let e = walk_past h c.requires.known.most c.items-item-items.ensures c.loop-item-test.false in
    (kept_end t es c.loop-item.item-index w.0 e, kept_end (λ e. not (t e)) es c.loop-item.item-index w.1 e)
