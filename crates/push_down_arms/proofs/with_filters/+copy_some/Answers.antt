use Rattle.std.proofs.Common.{rules}
use mathlib.Core.Path.{◌≡◌, ap, ◌∙◌}
use Prim.Native.Nat.{◌-◌}
use native.Mathlib.Omega.{arith}
use Rattle.image.specs.Tree.{size}
use Rattle.image.specs.Subtrees.{forest, tree_of}
use Rattle.image.proofs.Room.{low_below, low_after}
use Rattle.image.proofs.Subtrees.{goes, gone}
use Rattle.push_down_base.proofs.WrittenRuns.{rest_all, rest_next, rest_end, wrote_nothing, wrote_one}
use Rattle.push_down_arms.proofs.Behind.{goes_next}
use Rattle.push_down_arms.proofs.with_filters.+copy_some.Goals as goal

pub returns-then-end-tree-clause-wrote : goal.returns-then-end-tree-clause-wrote
returns-then-end-tree-clause-wrote g t c =
    let z : c.args.end - c.args.tree.number ≡ 0 = omega (arith, c.if-end-tree.true) in
    rw z (wrote_nothing c.put_nothing.ensures.bytes c.put_nothing.ensures.next)

pub loop-child-init : goal.loop-child-init
loop-child-init g t c =
    let i = c.into_iter-child-iterator.ensures.into_iter_gives in
    let b = c.children-child-items.ensures in
    let e = ap forest i ∙ b.is in
    let f = ap (λ x. x.first) i ∙ b.first in
    (c.put.ensures.same, rw e (rest_all _ _ _ _ c.args.out.now.long (wrote_one c.put.ensures.put) f), rw e c.requires, omega (arith, ap size e))

pub copy_some-requires-whole : goal.copy_some-requires-whole
copy_some-requires-whole g t c =
    let g = goes c.loop-child.child-iterator c.next.new.self c.in-Some.child c.in-Some.ensures.steps in
    let k = c.loop-child.invariant in
    let held = low_below g.is k.2 in
    λ κs. (omega (arith, ap size g.is, k.3, c.decreases), search rules)

pub loop-child-preserved : goal.loop-child-preserved
loop-child-preserved g t c =
    let x = c.loop-child.child-iterator in
    let y = c.next.new.self in
    let child = c.in-Some.child in
    let g = goes x y child c.in-Some.ensures.steps in
    let k = c.loop-child.invariant in (
      c.copy_some.ensures.same ∙ k.0,
      rest_next (tree_of child) (forest y) (rw g.is at k.1) (rw g.number at c.copy_some.ensures.wrote)
          (goes_next x y child c.in-Some.ensures.steps),
      low_after g.is k.2,
      omega (arith, ap size g.is, k.3),
    )

pub returns-clause-wrote : goal.returns-clause-wrote
returns-clause-wrote g t c =
    let k = c.loop-child.invariant in
    let all = rw (gone c.loop-child.child-iterator c.in-None.ensures.steps.0) at k.1 in
    rest_end _ _ (tree_of c.args.tree) c.args.out.now.long (omega (arith, c.if-end-tree.false)) (rw c.label.ensures.label at (wrote_one c.put.ensures.put)) all
