use Rattle.std.proofs.Common.{rules}
use mathlib.Core.Path.{◌≡◌, sym, ap, ap₂, ◌∙◌}
use mathlib.Core.Bool.{true, false}
use native.Mathlib.Omega.{arith}
use Rattle.image.specs.Tree.{size}
use Rattle.image.specs.Subtrees.{tree_of}
use Rattle.image.proofs.Subtrees.{goes, gone}
use Rattle.conjuncts.specs.Equality.{same, same_any}
use Rattle.conjuncts.proofs.Equals.{none_left}
use Rattle.conjuncts.proofs.equality.+same_tree.Goals as goal

pub returns-in_default : goal.returns-in_default
returns-in_default g t c =
    let k = c.loop-left.invariant in
    let g = goes c.loop-left.left-iterator c.next.new.self c.in-Some.left c.in-Some.ensures.steps in
    sym (k.0 ∙ ap₂ same_any g.is (gone c.loop-left.others c.in_default.ensures.steps.0))

pub same_tree-requires-whole : goal.same_tree-requires-whole
same_tree-requires-whole g t c =
    let k = c.loop-left.invariant in
    let g = goes c.loop-left.left-iterator c.next.new.self c.in-Some.left c.in-Some.ensures.steps in
    λ κs. (omega (arith, ap size g.is, k.1, c.decreases), search rules)

pub returns-then-not-same_tree : goal.returns-then-not-same_tree
returns-then-not-same_tree g t c =
    let k = c.loop-left.invariant in
    let g = goes c.loop-left.left-iterator c.next.new.self c.in-Some.left c.in-Some.ensures.steps in
    let h = goes c.loop-left.others c.next-in-loop-left.new.self c.in-Some-next.right c.in-Some-next.ensures.steps in
    let e : same (tree_of c.in-Some.left) (tree_of c.in-Some-next.right) ≡ false = sym c.same_tree.ensures ∙ c.if-not-same_tree.true in
    sym (k.0 ∙ ap₂ same_any g.is h.is ∙ rw e)

pub loop-left-preserved : goal.loop-left-preserved
loop-left-preserved g t c =
    let k = c.loop-left.invariant in
    let g = goes c.loop-left.left-iterator c.next.new.self c.in-Some.left c.in-Some.ensures.steps in
    let h = goes c.loop-left.others c.next-in-loop-left.new.self c.in-Some-next.right c.in-Some-next.ensures.steps in
    let e : same (tree_of c.in-Some.left) (tree_of c.in-Some-next.right) ≡ true = sym c.same_tree.ensures ∙ c.if-not-same_tree.false in
    (k.0 ∙ ap₂ same_any g.is h.is ∙ rw e, omega (arith, ap size g.is, k.1))

pub returns : goal.returns
returns g t c =
    let k = c.loop-left.invariant in
    let g = gone c.loop-left.left-iterator c.in-None.ensures.steps.0 in
    sym (k.0 ∙ rw g (none_left c.loop-left.others c.next-2.new.self c.next-2.result c.next-2.ensures.steps c.is_none.ensures))
