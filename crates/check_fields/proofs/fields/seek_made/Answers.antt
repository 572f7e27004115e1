use mathlib.Core.Path.{sym, ap, ◌∙◌}
use Prim.Native.Nat.{ℕ}
use Rattle.std.proofs.Common.{Break}
use Rattle.image.proofs.Subtrees.{goes, gone}
use Rattle.plan.proofs.Bools.{and_left}
use Rattle.check_fields.proofs.Seeking.{made_done, made_skip, made_pass, made_found}
use Rattle.check_fields.proofs.fields.seek_made.Goals as goal

pub returns-then-left-eq0 : goal.returns-then-left-eq0
returns-then-left-eq0 g c =
    let g = goes c.loop-part.part-iterator c.next.new.self c.in-Some.part c.in-Some.ensures.steps in
    let m = rw (c.makes_field.ensures, c.is_hit.ensures, c.label-label.ensures.label) at c.if-makes_field-is_hit.true in
    λ d. ap (λ (t : ℕ). Break t) (c.made_by.ensures d (and_left _ _ m)) ∙ made_found _ _ g.is m c.if-left-eq0.true d ∙ sym (c.loop-part.invariant d)

pub loop-part-preserved-then-makes_field-is_hit : goal.loop-part-preserved-then-makes_field-is_hit
loop-part-preserved-then-makes_field-is_hit g c =
    let g = goes c.loop-part.part-iterator c.next.new.self c.in-Some.part c.in-Some.ensures.steps in
    let m = rw (c.makes_field.ensures, c.is_hit.ensures, c.label-label.ensures.label) at c.if-makes_field-is_hit.true in
    λ d. c.loop-part.invariant d ∙ made_pass _ _ g.is m c.if-left-eq0.false d

pub loop-part-preserved : goal.loop-part-preserved
loop-part-preserved g c =
    let g = goes c.loop-part.part-iterator c.next.new.self c.in-Some.part c.in-Some.ensures.steps in
    let m = rw (c.makes_field.ensures, c.is_hit.ensures, c.label-label.ensures.label) at c.if-makes_field-is_hit.false in
    λ d. c.loop-part.invariant d ∙ made_skip _ _ g.is m d

pub returns : goal.returns
returns g c = λ d. made_done _ _ _ _ _ c.loop-part.invariant (gone c.loop-part.part-iterator c.in-None.ensures.steps.0) d
