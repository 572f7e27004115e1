use mathlib.Core.Path.{sym, ap, ◌∙◌}
use lib.Dec.{eqb}
use Rattle.image.proofs.Subtrees.{goes, gone}
use Rattle.plan.specs.Lists.{all}
use Rattle.check_types.proofs.Demanding.{types_none, types_other, types_more, have_none, have_not, have_more}
use Rattle.check_types.proofs.operands.all_have.Goals.{else-is_expression-via-then-is_expression+else-t-type_of, else-is_expression-via-else-is_expression}
use Rattle.check_types.proofs.operands.all_have.Goals as goal

pub returns-then-t-type_of : goal.returns-then-t-type_of
returns-then-t-type_of g c =
    let g = goes c.loop-tree.tree-iterator c.next.new.self c.in-Some.tree c.in-Some.ensures.steps in
    let l = c.label-label.ensures.label in
    sym (c.loop-tree.invariant
    ∙ have_not c.args.t (types_more g.is _ _ (sym (rw l at c.is_expression.ensures) ∙ c.if-is_expression.true))
    (rw (c.type_of.ensures, l) at c.if-t-type_of.true))

pub loop-tree-preserved : goal.loop-tree-preserved
loop-tree-preserved g c =
    let g = goes c.loop-tree.tree-iterator c.next.new.self c.in-Some.tree c.in-Some.ensures.steps in
    let l = c.label-label.ensures.label in
    let k = rw l at c.is_expression.ensures in
    c.loop-tree.invariant
    ∙ (elim c.else-is_expression.branch [
      | else-is_expression-via-then-is_expression+else-t-type_of b ↦
          have_more c.args.t (types_more g.is _ _ (sym k ∙ b.if-is_expression.true)) (rw (b.type_of.ensures, l) at b.if-t-type_of.false)
      | else-is_expression-via-else-is_expression b ↦ ap (all (eqb c.args.t)) (types_other g.is _ _ (sym k ∙ b.if-is_expression.false))
    ])

pub returns : goal.returns
returns g c = sym (c.loop-tree.invariant ∙ have_none c.args.t (types_none _ _ _ (gone c.loop-tree.tree-iterator c.in-None.ensures.steps.0)))
