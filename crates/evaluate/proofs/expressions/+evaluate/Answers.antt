use Rattle.std.proofs.Common.{rules}
use native.Mathlib.Omega.{arith}
use mathlib.Core.Path.{sym, ap, ◌∙◌}
use Rattle.image.specs.Tree.{size}
use Rattle.image.specs.Subtrees.{forest, tree_of}
use Rattle.image.proofs.Subtrees.{goes, gone}
use Rattle.plan.proofs.Rights.{right_literal}
use Rattle.evaluate.proofs.Folding.{seen_none, seen_next, seen_all, tree_column, tree_literal, tree_operator}
use Rattle.evaluate.proofs.expressions.+evaluate.Goals as goal

pub returns-then-l-eq-COLUMN : goal.returns-then-l-eq-COLUMN
returns-then-l-eq-COLUMN g t c =
    record {
      right = c.column.ensures.right;
      is = λ ns n le. tree_column _ _ (tree_of c.args.tree) c.label-l.ensures.label _ c.if-l-eq-COLUMN.true (c.column.ensures.is ns n le);
    }

pub returns-in-Some : goal.returns-in-Some
returns-in-Some g t c =
    let e = sym c.literal_of.ensures ∙ c.in-Some.is in
    record { right = right_literal c.label-l.result _ e; is = λ ns n le. tree_literal _ _ (tree_of c.args.tree) c.label-l.ensures.label _ e }

pub loop-child-init : goal.loop-child-init
loop-child-init g t c =
    let e = ap forest c.into_iter-child-iterator.ensures.into_iter_gives ∙ c.children-child-items.ensures.is in
    rw e ((c.nothing-seen.ensures.right, λ ns n le. seen_none _ (tree_of c.args.tree) c.nothing-seen.ensures.is), omega arith)

pub evaluate-requires-whole : goal.evaluate-requires-whole
evaluate-requires-whole g t c =
    let g = goes c.loop-child.child-iterator c.next.new.self c.in-Some-child.child c.in-Some-child.ensures.steps in
    λ κs. (omega (arith, ap size g.is, c.loop-child.invariant.1, c.decreases), search rules)

pub loop-child-preserved : goal.loop-child-preserved
loop-child-preserved g t c =
    let g = goes c.loop-child.child-iterator c.next.new.self c.in-Some-child.child c.in-Some-child.ensures.steps in
    let k = rw g.is at c.loop-child.invariant in (
      (
        c.with-seen.ensures.right,
        λ ns n le. seen_next c.evaluate.result (tree_of c.in-Some-child.child) (k.0.1 ns n le) (c.evaluate.ensures.is ns n le).value
            c.with-seen.ensures.is,
      ),
      omega (arith, k.1),
    )

pub returns : goal.returns
returns g t c =
    let k = rw (gone c.loop-child.child-iterator c.in-None.ensures.steps.0) at c.loop-child.invariant in
    record {
      right = c.operate.ensures.right;
      is = λ ns n le.
          tree_operator _ _ (tree_of c.args.tree) c.label-l.ensures.label _ c.if-l-eq-COLUMN.false
          (sym c.literal_of.ensures ∙ c.in_default.is) (c.operate.ensures.is _ (seen_all (k.0.1 ns n le)));
    }
