use mathlib.Core.Path.{sym, ◌∙◌}
use Rattle.image.proofs.Subtrees.{goes, gone}
use Rattle.check_names.specs.Singles.{single, own_question, whole_of}
use Rattle.check_names.proofs.Telling.{none_made, made_other, made_fails, made_passes, called_by}
use Rattle.check_names.proofs.schemas.all_made.Goals.{else-makes_field-via-then-makes_field+else-not-is_single, else-makes_field-via-else-makes_field}
use Rattle.check_names.proofs.schemas.all_made.Goals as goal

pub returns-then-not-is_single : goal.returns-then-not-is_single
returns-then-not-is_single g c =
    let g = goes c.loop-part.part-iterator c.next.new.self c.in-Some.part c.in-Some.ensures.steps in
    let l = c.label-label.ensures.label in
    λ d. sym (c.loop-part.invariant d
    ∙ made_fails _ g.is d (sym (rw l at c.makes_field.ensures) ∙ c.if-makes_field.true)
    (called_by (single (whole_of c.args.w) (own_question c.args.w.role)) c.args.to _ _ (rw l at c.unwrap_or.ensures)
    ∙ sym (rw l at c.is_single.ensures) ∙ c.if-not-is_single.true))

pub loop-part-preserved : goal.loop-part-preserved
loop-part-preserved g c =
    let g = goes c.loop-part.part-iterator c.next.new.self c.in-Some.part c.in-Some.ensures.steps in
    let l = c.label-label.ensures.label in
    let k = rw l at c.makes_field.ensures in
    λ d. c.loop-part.invariant d
    ∙ (elim c.else-makes_field.branch [
      | else-makes_field-via-then-makes_field+else-not-is_single b ↦
          made_passes _ g.is d (sym k ∙ b.if-makes_field.true)
          (called_by (single (whole_of c.args.w) (own_question c.args.w.role)) c.args.to _ _ (rw l at b.unwrap_or.ensures)
          ∙ sym (rw l at b.is_single.ensures) ∙ b.if-not-is_single.false)
      | else-makes_field-via-else-makes_field b ↦ made_other _ g.is d (sym k ∙ b.if-makes_field.false)
    ])

pub returns : goal.returns
returns g c = λ d. none_made _ d _ (gone c.loop-part.part-iterator c.in-None.ensures.steps.0) ∙ sym (c.loop-part.invariant d)
