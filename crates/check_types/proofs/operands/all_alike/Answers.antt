use mathlib.Core.Path.{sym, ◌∙◌}
use Rattle.check_types.proofs.Demanding.{types_none, types_other, types_more, alike_none, alike_first}
use Rattle.check_types.proofs.operands.all_alike.Goals as goal

pub returns-then-is_expression : goal.returns-then-is_expression
returns-then-is_expression g c =
    let l = c.label-label.ensures.label in
    (rw (c.type_of.ensures, l) at c.all_have.ensures)
    ∙ sym (alike_first (c.loop-tree.invariant
    ∙ types_more c.in-Some.ensures.is _ _ (sym (rw l at c.is_expression.ensures) ∙ c.if-is_expression.true)))

pub loop-tree-preserved : goal.loop-tree-preserved
loop-tree-preserved g c =
    c.loop-tree.invariant
    ∙ types_other c.in-Some.ensures.is _ _ (sym (rw c.label-label.ensures.label at c.is_expression.ensures) ∙ c.if-is_expression.false)

pub returns : goal.returns
returns g c = sym (alike_none (c.loop-tree.invariant ∙ types_none _ _ _ c.in_default.ensures))
