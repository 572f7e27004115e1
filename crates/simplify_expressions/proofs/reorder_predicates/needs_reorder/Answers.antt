use mathlib.Core.Path.{sym, ◌∙◌}
use native.Mathlib.Omega.{arith}
use Rattle.simplify_expressions.proofs.Order.{after_first, after_next}
use Rattle.simplify_expressions.proofs.Sides.{and_is}
use Rattle.conjuncts.proofs.Listed.{lists_length, at_end}
use Rattle.simplify_expressions.proofs.reorder_predicates.needs_reorder.Goals as goal

pub loop-i-init : goal.loop-i-init
loop-i-init c =
    λ es h. after_first es

pub returns-then-costly-now : goal.returns-then-costly-now
returns-then-costly-now c =
    λ es h. let p = c.requires in
    sym (c.loop-i.invariant es h
    ∙ (after_next es c.loop-i.i (omega (arith, lists_length h p.most, c.loop-i-test.true)) _ _
    (c.function_at-now.ensures es h) ∙ rw (and_is, c.if-costly-now.true)))

pub loop-i-preserved : goal.loop-i-preserved
loop-i-preserved c =
    λ es h. let p = c.requires in
    c.loop-i.invariant es h
    ∙ (after_next es c.loop-i.i
    (omega (arith, lists_length h p.most, c.loop-i-test.true)) _ _ (c.function_at-now.ensures es h)
    ∙ rw (and_is, c.if-costly-now.false))

pub returns : goal.returns
returns c =
    λ es h. let p = c.requires in
    sym (c.loop-i.invariant es h ∙ rw (at_end es c.loop-i.i (omega (arith, lists_length h p.most, c.loop-i-test.false))))
