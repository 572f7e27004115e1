use Rattle.std.proofs.Common.{rules}
use mathlib.Core.Path.{◌≡◌, sym, ap, ◌∙◌}
use Prim.Native.Nat.{◌+◌}
use native.Mathlib.Omega.{arith}
use Rattle.image.specs.Subtrees.{forest, tree_of}
use Rattle.image.specs.Tree.{size}
use Rattle.image.proofs.Subtrees.{goes, gone}
use Rattle.plan.specs.Form.{conjuncts}
use Rattle.check_form.proofs.Counts.{one_is, conj_few, conj_none, conj_and, conj_one, count_on, count_room, count_end}
use Rattle.check_form.proofs.children.+conjuncts_in.Goals.{then-splits, else-splits}
use Rattle.check_form.proofs.children.+conjuncts_in.Goals as goal

pub conjuncts_in-requires-whole : goal.conjuncts_in-requires-whole
conjuncts_in-requires-whole g t c =
    let g = goes c.loop-tree.tree-iterator c.next.new.self c.in-Some.tree c.in-Some.ensures.steps in
    λ κs. (omega (arith, ap size g.is, ap size c.children.ensures.is, c.loop-tree.invariant.0, c.decreases), search rules)

pub overflow_add-n : goal.overflow_add-n
overflow_add-n g t c =
    let g = goes c.loop-tree.tree-iterator c.next.new.self c.in-Some.tree c.in-Some.ensures.steps in
    let e : conjuncts (forest c.loop-tree.tree-iterator) ≡ c.if-splits.n + conjuncts (forest c.next.new.self) = elim c.if-splits.branch [
      | then-splits b ↦ rw b.n-is (conj_and g.is (sym c.splits.ensures ∙ b.if-splits.true) (rw b.children.ensures.is at b.conjuncts_in.ensures))
      | else-splits b ↦
          rw b.n-is
          (conj_one g.is (sym c.splits.ensures ∙ b.if-splits.false)
          (one_is (tree_of c.in-Some.tree).label b.one_if.ensures b.of_sort.ensures b.kind.ensures))
    ] in
    omega (arith, count_room c.args.trees (count_on c.loop-tree.invariant.1 _ _ e) (conj_few _))

pub loop-tree-preserved : goal.loop-tree-preserved
loop-tree-preserved g t c =
    let g = goes c.loop-tree.tree-iterator c.next.new.self c.in-Some.tree c.in-Some.ensures.steps in
    let e : conjuncts (forest c.loop-tree.tree-iterator) ≡ c.if-splits.n + conjuncts (forest c.next.new.self) = elim c.if-splits.branch [
      | then-splits b ↦ rw b.n-is (conj_and g.is (sym c.splits.ensures ∙ b.if-splits.true) (rw b.children.ensures.is at b.conjuncts_in.ensures))
      | else-splits b ↦
          rw b.n-is
          (conj_one g.is (sym c.splits.ensures ∙ b.if-splits.false)
          (one_is (tree_of c.in-Some.tree).label b.one_if.ensures b.of_sort.ensures b.kind.ensures))
    ] in
    (omega (arith, ap size g.is, c.loop-tree.invariant.0), count_on c.loop-tree.invariant.1 _ _ e)

pub returns : goal.returns
returns g t c = count_end c.loop-tree.invariant.1 (conj_none _ (gone c.loop-tree.tree-iterator c.in-None.ensures.steps.0))
