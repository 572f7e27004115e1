use mathlib.Core.Path.{sym, ◌∙◌}
use Rattle.image.proofs.Subtrees.{goes, gone}
use Rattle.check_types.proofs.Demanding.{types_none, types_other, types_more, first_none, first_is}
use Rattle.check_types.proofs.operands.first_type.Goals as goal

pub returns-then-is_expression : goal.returns-then-is_expression
returns-then-is_expression g c =
    let g = goes c.loop-tree.tree-iterator c.next.new.self c.in-Some.tree c.in-Some.ensures.steps in
    let l = c.label-label.ensures.label in
    (rw l at c.type_of.ensures)
    ∙ sym (first_is (c.loop-tree.invariant ∙ types_more g.is _ _ (sym (rw l at c.is_expression.ensures) ∙ c.if-is_expression.true)))

pub loop-tree-preserved : goal.loop-tree-preserved
loop-tree-preserved g c =
    let g = goes c.loop-tree.tree-iterator c.next.new.self c.in-Some.tree c.in-Some.ensures.steps in
    c.loop-tree.invariant
    ∙ types_other g.is _ _ (sym (rw c.label-label.ensures.label at c.is_expression.ensures) ∙ c.if-is_expression.false)

pub returns : goal.returns
returns g c = sym (first_none (c.loop-tree.invariant ∙ types_none _ _ _ (gone c.loop-tree.tree-iterator c.in-None.ensures.steps.0)))
