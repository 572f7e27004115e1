use mathlib.Core.Path.{sym, ◌∙◌}
use Rattle.check_types.proofs.ByPlacing.{all_none, all_not, all_more, all_skip}
use Rattle.check_types.proofs.places.as_first.Goals.{else-is_plan-via-then-is_plan+else-not-same_fields, else-is_plan-via-else-is_plan}
use Rattle.check_types.proofs.places.as_first.Goals as goal

pub returns-then-not-same_fields : goal.returns-then-not-same_fields
returns-then-not-same_fields g c =
    sym (c.loop-tree.invariant
    ∙ all_not c.in-Some.ensures.is _ (sym (rw c.kind.ensures at c.is_plan.ensures) ∙ c.if-is_plan.true)
    (sym (rw (c.first_plan.ensures, c.first_plan-first.ensures) at c.same_fields.ensures) ∙ c.if-not-same_fields.true))

pub loop-tree-preserved : goal.loop-tree-preserved
loop-tree-preserved g c =
    let k = rw c.kind.ensures at c.is_plan.ensures in
    c.loop-tree.invariant
    ∙ (elim c.else-is_plan.branch [
      | else-is_plan-via-then-is_plan+else-not-same_fields b ↦
          all_more c.in-Some.ensures.is _ (sym k ∙ b.if-is_plan.true)
          (sym (rw (b.first_plan.ensures, c.first_plan-first.ensures) at b.same_fields.ensures) ∙ b.if-not-same_fields.false)
      | else-is_plan-via-else-is_plan b ↦ all_skip c.in-Some.ensures.is _ (sym k ∙ b.if-is_plan.false)
    ])

pub returns : goal.returns
returns g c = sym (c.loop-tree.invariant ∙ all_none _ _ c.in_default.ensures)
