use Rattle.std.proofs.Common.{rules}
use mathlib.Core.Path.{refl, sym, ap, ◌∙◌}
use mathlib.Core.Bool.{Bool}
use Prim.Native.Nat.{ℕ, ◌+◌, ◌≤◌}
use lib.Dec.{leb}
use native.Mathlib.Omega.{arith}
use borrow.Author.Tests.{le-leb, lt-leb}
use Rattle.std.proofs.Common.{Some}
use Rattle.image.specs.Limits.{max_depth}
use Rattle.image.specs.Tree.{Label, Forest, size}
use Rattle.image.proofs.Finding.{place_none, place_here, place_below, place_after}
use Rattle.image.proofs.Subtrees.{goes, gone}
use Rattle.plan.proofs.Turns.{next_is}
use Rattle.check_form.proofs.depth.+too_deep.Goals as goal

abbrev rule : ℕ → Label → Forest → Bool
rule d l cs = leb d max_depth

abbrev deeper : ℕ → Label → Forest → ℕ × ℕ
deeper d l cs = (d + 1, d + 1)

pub returns-then-level-gt-MAX_DEPTH : goal.returns-then-level-gt-MAX_DEPTH
returns-then-level-gt-MAX_DEPTH g t c =
    let x = c.loop-tree.tree-iterator in
    let g = goes x c.next.new.self c.in-Some.tree c.in-Some.ensures.steps in
    ap (λ (n : ℕ). Some n) g.number
    ∙ place_here rule deeper x.first g.is refl refl c.args.level c.args.level _ _ refl refl (lt-leb _ max_depth c.if-level-gt-MAX_DEPTH.true)
    ∙ c.loop-tree.invariant.1

pub too_deep-below-requires-whole : goal.too_deep-below-requires-whole
too_deep-below-requires-whole g t c =
    let g = goes c.loop-tree.tree-iterator c.next.new.self c.in-Some.tree c.in-Some.ensures.steps in
    let held : c.args.level + 1 ≤ max_depth + 1 = omega arith in
    λ κs. (omega (arith, ap size g.is, ap size c.children.ensures.is, c.loop-tree.invariant.0, c.decreases), search rules)

pub returns-then-is_some : goal.returns-then-is_some
returns-then-is_some g t c =
    let x = c.loop-tree.tree-iterator in
    let g = goes x c.next.new.self c.in-Some.tree c.in-Some.ensures.steps in
    place_below rule deeper x.first g.is (rw g.number at c.children.ensures.first) refl c.args.level c.args.level _ _ refl refl
    (le-leb _ max_depth c.if-level-gt-MAX_DEPTH.false) _ (sym c.is_some.ensures ∙ c.if-is_some.true)
    (rw c.children.ensures.is at c.too_deep-below.ensures)
    ∙ c.loop-tree.invariant.1

pub loop-tree-preserved : goal.loop-tree-preserved
loop-tree-preserved g t c =
    let x = c.loop-tree.tree-iterator in
    let g = goes x c.next.new.self c.in-Some.tree c.in-Some.ensures.steps in (
      omega (arith, ap size g.is, c.loop-tree.invariant.0),
      place_after rule deeper x.first g.is (rw g.number at c.children.ensures.first)
          (next_is x c.next.new.self c.in-Some.tree c.in-Some.ensures.steps) c.args.level c.args.level _ _ refl refl
          (le-leb _ max_depth c.if-level-gt-MAX_DEPTH.false) _ (sym c.is_some.ensures ∙ c.if-is_some.false)
          (rw c.children.ensures.is at c.too_deep-below.ensures)
          ∙ c.loop-tree.invariant.1,
    )

pub returns : goal.returns
returns g t c = place_none rule deeper _ _ _ _ (gone c.loop-tree.tree-iterator c.in-None.ensures.steps.0) ∙ c.loop-tree.invariant.1
