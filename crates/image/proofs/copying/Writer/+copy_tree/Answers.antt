use mathlib.Core.Path.{ap, ◌∙◌}
use native.Mathlib.Omega.{arith}
use Rattle.std.proofs.Common.{rules}
use Rattle.image.specs.Tree.{size}
use Rattle.image.specs.Subtrees.{forest}
use Rattle.image.proofs.Room.{put_start, left_next, left_end, wrote_past, low_below, low_after}
use Rattle.image.proofs.Subtrees.{goes, gone}
use Rattle.image.proofs.copying.Writer.+copy_tree.Goals as goal

pub returns-then-self-ge-MAX_RECORDS-clause-wrote : goal.returns-then-self-ge-MAX_RECORDS-clause-wrote
returns-then-self-ge-MAX_RECORDS-clause-wrote g t c = wrote_past _ _ _ _ c.args.self.now.long c.if-self-ge-MAX_RECORDS.true

pub loop-child-init : goal.loop-child-init
loop-child-init g t c =
    let e = ap forest c.into_iter-child-iterator.ensures.into_iter_gives ∙ c.children-child-items.ensures.is in
    let start = put_start c.args.self.now.long c.put.ensures.put c.args.tree.stood.tree.below in
    (c.put.ensures.same, rw e start, rw e c.requires, omega (arith, ap size e))

pub copy_tree-requires-whole : goal.copy_tree-requires-whole
copy_tree-requires-whole g t c =
    let g = goes c.loop-child.child-iterator c.next.new.self c.in-Some.child c.in-Some.ensures.steps in
    let k = c.loop-child.invariant in
    let low = low_below g.is k.2 in λ κs. (omega (arith, ap size g.is, k.3, c.decreases), search rules)

pub loop-child-preserved : goal.loop-child-preserved
loop-child-preserved g t c =
    let g = goes c.loop-child.child-iterator c.next.new.self c.in-Some.child c.in-Some.ensures.steps in
    let k = c.loop-child.invariant in (
      c.copy_tree.ensures.same ∙ k.0,
      left_next _ (rw g.is at k.1) c.copy_tree.ensures.wrote,
      low_after g.is k.2,
      omega (arith, ap size g.is, k.3),
    )

pub returns-clause-wrote : goal.returns-clause-wrote
returns-clause-wrote g t c =
    let k = c.loop-child.invariant in
    let all = rw (gone c.loop-child.child-iterator c.in-None.ensures.steps.0) at k.1 in
    rw (← c.label.ensures.label) (left_end c.args.self.now.long c.put.ensures.put all)
