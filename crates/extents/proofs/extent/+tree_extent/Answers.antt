use Rattle.std.proofs.Common.{rules}
use mathlib.Core.Path.{ap, ◌∙◌}
use native.Mathlib.Omega.{arith}
use Rattle.image.specs.Subtrees.{forest, tree_of}
use Rattle.image.specs.Tree.{size}
use Rattle.image.proofs.Subtrees.{goes, gone}
use Rattle.extents.proofs.Extents.{left_start, left_next, left_end, left_small, max_is}
use Rattle.extents.proofs.extent.+tree_extent.Goals as goal

pub loop-child-init : goal.loop-child-init
loop-child-init g t c =
    let e = ap forest c.into_iter-child-iterator.ensures.into_iter_gives ∙ c.children-child-items.ensures.is in
    (rw e (left_start (tree_of c.args.tree)), omega (arith, ap size e))

pub tree_extent-e-requires-whole : goal.tree_extent-e-requires-whole
tree_extent-e-requires-whole g t c =
    let g = goes c.loop-child.child-iterator c.next.new.self c.in-Some.child c.in-Some.ensures.steps in
    let k = c.loop-child.invariant in
    λ κs. (omega (arith, ap size g.is, k.1, c.decreases), search rules)

pub overflow_add-records : goal.overflow_add-records
overflow_add-records g t c =
    let g = goes c.loop-child.child-iterator c.next.new.self c.in-Some.child c.in-Some.ensures.steps in
    let h = left_next (rw g.is at c.loop-child.invariant.0) c.tree_extent-e.ensures in
    omega (arith, left_small c.args.tree h, c.ranges.tree.0)

pub loop-child-preserved : goal.loop-child-preserved
loop-child-preserved g t c =
    let g = goes c.loop-child.child-iterator c.next.new.self c.in-Some.child c.in-Some.ensures.steps in
    let k = c.loop-child.invariant in
    (rw (c.max-below.ensures, max_is) (left_next (rw g.is at k.0) c.tree_extent-e.ensures), omega (arith, ap size g.is, k.1))

pub overflow_add-result : goal.overflow_add-result
overflow_add-result g t c = omega (arith, left_small c.args.tree c.loop-child.invariant.0, c.ranges.tree.0)

pub returns : goal.returns
returns g t c = left_end (rw (gone c.loop-child.child-iterator c.in-None.ensures.steps.0) at c.loop-child.invariant.0)
