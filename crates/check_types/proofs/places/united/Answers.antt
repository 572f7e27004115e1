use mathlib.Core.Path.{sym, ap, ◌∙◌}
use Rattle.check_fields.specs.Rules.{united}
use Rattle.check_fields.proofs.Counting.{skip_part}
use Rattle.check_types.proofs.ByPlacing.{united_none, united_rest}
use Rattle.check_types.proofs.places.united.Goals as goal

pub returns-then-is_plan : goal.returns-then-is_plan
returns-then-is_plan g c =
    c.as_first.ensures
    ∙ sym (ap united c.loop-tree.invariant
    ∙ united_rest c.in-Some.ensures.is (sym (rw c.kind.ensures at c.is_plan.ensures) ∙ c.if-is_plan.true))

pub loop-tree-preserved : goal.loop-tree-preserved
loop-tree-preserved g c =
    c.loop-tree.invariant ∙ skip_part c.in-Some.ensures.is (sym (rw c.kind.ensures at c.is_plan.ensures) ∙ c.if-is_plan.false)

pub returns : goal.returns
returns g c = sym (ap united c.loop-tree.invariant ∙ united_none _ c.in_default.ensures)
