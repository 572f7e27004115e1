-- `sorts::of_sort` meets its contract.
use Rattle.check_form.specs.Sorts.{sort_of}
use Rattle.check_form.proofs.sorts.of_sort.Goals as goal

pub returns-in-Expression : goal.returns-in-Expression
unfolding sort_of
returns-in-Expression c =
    rw c.in-Expression.is c.is_expression.ensures

pub returns-in-Plan : goal.returns-in-Plan
unfolding sort_of
returns-in-Plan c =
    rw c.in-Plan.is c.is_plan.ensures

pub returns-in-Kind : goal.returns-in-Kind
unfolding sort_of
returns-in-Kind c =
    rw c.in-Kind.is
