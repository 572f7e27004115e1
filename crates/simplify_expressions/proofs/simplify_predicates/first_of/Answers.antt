-- `simplify_predicates::first_of` meets its contract.
use mathlib.Core.Path.{sym, ◌∙◌}
use Rattle.simplify_expressions.proofs.Classed.{lesser_none, lesser_out, lesser_held, lesser_new}
use Rattle.simplify_expressions.proofs.simplify_predicates.first_of.Goals as goal

pub returns-in_default : goal.returns-in_default
returns-in_default c =
    lesser_none _ _ c.in_default.is

pub returns-then-not-comes_after : goal.returns-then-not-comes_after
returns-then-not-comes_after c =
    lesser_out _ _ c.in-Some.is (sym c.comes_after.ensures ∙ c.if-not-comes_after.true)

pub returns-then-comes_before : goal.returns-then-comes_before
returns-then-comes_before c =
    lesser_held _ _ c.in-Some.is
    (sym c.comes_after.ensures ∙ c.if-not-comes_after.false)
    (sym c.comes_before.ensures ∙ c.if-comes_before.true)

pub returns : goal.returns
returns c =
    lesser_new _ _ c.in-Some.is
    (sym c.comes_after.ensures ∙ c.if-not-comes_after.false)
    (sym c.comes_before.ensures ∙ c.if-comes_before.false)
