use mathlib.Core.Path.{sym, ◌∙◌}
use native.Mathlib.Omega.{arith}
use Rattle.conjuncts.proofs.Listed.{lists_length, at_end}
use Rattle.simplify_expressions.proofs.Sides.{kind_here, kind_past}
use Rattle.simplify_expressions.proofs.simplify_predicates.first_kind.Goals as goal

pub returns-then-not-is_null : goal.returns-then-not-is_null
returns-then-not-is_null c =
    λ es h. c.kind_of.ensures
    ∙ (kind_here es c.loop-i.i (omega (arith, lists_length h c.requires.most, c.loop-i-test.true)) (c.side_at.ensures.is es h)
    (sym c.if-not-is_null.true ∙ c.is_null.ensures) ∙ sym (c.loop-i.invariant es h))

pub loop-i-preserved : goal.loop-i-preserved
loop-i-preserved c =
    λ es h. c.loop-i.invariant es h
    ∙ kind_past es c.loop-i.i (omega (arith, lists_length h c.requires.most, c.loop-i-test.true)) (c.side_at.ensures.is es h)
    (sym c.if-not-is_null.false ∙ c.is_null.ensures)

pub returns : goal.returns
returns c =
    λ es h. sym (c.loop-i.invariant es h ∙ rw (at_end es c.loop-i.i (omega (arith, lists_length h c.requires.most, c.loop-i-test.false))))
