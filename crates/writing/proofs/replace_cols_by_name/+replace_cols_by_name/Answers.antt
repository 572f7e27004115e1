use Rattle.std.proofs.Common.{rules}
use mathlib.Core.Path.{ap, ◌∙◌}
use native.Mathlib.Omega.{arith}
use Rattle.image.specs.Tree.{size}
use Rattle.image.specs.Subtrees.{forest, tree_of}
use Rattle.image.proofs.Room.{put_start, left_next, left_end, wrote_past}
use Rattle.image.proofs.Subtrees.{goes, gone}
use Rattle.writing.specs.Replaced.{replaced, replaced_any}
use Rattle.writing.proofs.Entries.{replaced_found, replaced_below, low_found, over_below, over_after}
use Rattle.writing.proofs.replace_cols_by_name.+replace_cols_by_name.Goals as goal

pub returns-then-out-ge-MAX_RECORDS-clause-wrote : goal.returns-then-out-ge-MAX_RECORDS-clause-wrote
returns-then-out-ge-MAX_RECORDS-clause-wrote g t c = wrote_past _ _ _ _ c.args.out.now.long c.if-out-ge-MAX_RECORDS.true

pub copy_tree-requires : goal.copy_tree-requires
copy_tree-requires g t c =
    let low = low_found (tree_of c.args.map) (tree_of c.args.tree).label _ c.requires c.in-Some.ensures in (omega arith, low)

pub returns-in-Some-clause-wrote : goal.returns-in-Some-clause-wrote
returns-in-Some-clause-wrote g t c =
    rw (replaced_found (tree_of c.args.map) (tree_of c.args.tree) c.in-Some.ensures) at c.copy_tree.ensures.wrote

pub loop-child-init : goal.loop-child-init
loop-child-init g t c =
    let e = ap forest c.into_iter-child-iterator.ensures.into_iter_gives ∙ c.children-child-items.ensures.is in
    let start = put_start c.args.out.now.long c.put.ensures.put (replaced_any (tree_of c.args.map) (tree_of c.args.tree).below) in
    (c.put.ensures.same, rw e start, rw e c.requires, omega (arith, ap size e))

pub replace_cols_by_name-requires-whole : goal.replace_cols_by_name-requires-whole
replace_cols_by_name-requires-whole g t c =
    let g = goes c.loop-child.child-iterator c.next.new.self c.in-Some-child.child c.in-Some-child.ensures.steps in
    let k = c.loop-child.invariant in
    let held = over_below g.is k.2 in
    λ κs. (omega (arith, ap size g.is, k.3, c.decreases), search rules)

pub loop-child-preserved : goal.loop-child-preserved
loop-child-preserved g t c =
    let g = goes c.loop-child.child-iterator c.next.new.self c.in-Some-child.child c.in-Some-child.ensures.steps in
    let k = c.loop-child.invariant in
    let w = c.replace_cols_by_name.ensures in (
      w.same ∙ k.0,
      left_next (replaced (tree_of c.args.map) (tree_of c.in-Some-child.child)) (rw g.is at k.1) w.wrote,
      over_after g.is k.2,
      omega (arith, ap size g.is, k.3),
    )

pub returns-clause-wrote : goal.returns-clause-wrote
returns-clause-wrote g t c =
    let k = c.loop-child.invariant in
    let all = rw (gone c.loop-child.child-iterator c.in-None.ensures.steps.0) at k.1 in
    rw (replaced_below (tree_of c.args.map) (tree_of c.args.tree) c.in_default.ensures)
    (rw c.label.ensures.label at (left_end c.args.out.now.long c.put.ensures.put all))
