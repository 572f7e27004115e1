-- `simplify_predicates::compared_in` meets its contract.
use mathlib.Core.Path.{sym, ◌∙◌}
use Rattle.plan.specs.WordValues.{cmp_of}
use Rattle.simplify_expressions.proofs.Comparing.{not_compared, operands, some_left, some_right, come_at}
use Rattle.simplify_expressions.proofs.simplify_predicates.compared_in.Goals as goal

pub returns-in_err-op : goal.returns-in_err-op
returns-in_err-op c =
    λ e h f. rw c.from_residual.ensures
    (not_compared e (rw (c.label.ensures.label, h) at c.in_err-op.ensures))

pub returns-in_err-left : goal.returns-in_err-left
returns-in_err-left c =
    λ e h f. let k = operands e (cmp_of c.in_ok-op.op) h (rw c.label.ensures.label at c.in_ok-op.ensures) in
    absurd (some_left k (sym c.children.ensures.is ∙ c.in_err-left.ensures))

pub returns-in_err-right : goal.returns-in_err-right
returns-in_err-right c =
    λ e h f. let k = operands e (cmp_of c.in_ok-op.op) h (rw c.label.ensures.label at c.in_ok-op.ensures) in
    absurd (some_right k c.children.result c.in_ok-left.others c.in_ok-left.left c.children.ensures.is c.in_ok-left.ensures c.in_err-right.ensures)

pub returns : goal.returns
returns c =
    λ e h f. let k = operands e (cmp_of c.in_ok-op.op) h (rw c.label.ensures.label at c.in_ok-op.ensures) in
    c.matched.ensures
    ∙ rw (c.label-2.ensures.label, c.label-3.ensures.label)
    (come_at k c.children.result c.in_ok-left.others c.in_ok-left.left c.children.ensures.is c.in_ok-left.ensures c.in_ok-right.right _
    c.in_ok-right.ensures f)
