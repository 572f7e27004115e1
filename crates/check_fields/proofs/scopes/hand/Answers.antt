-- `scopes::hand` meets its contract.
use mathlib.Core.Path.{sym, ◌∙◌}
use Rattle.check_fields.specs.Scopes.{scope_at}
use Rattle.check_fields.proofs.Scoping.{hand_plan, hand_part}
use Rattle.check_fields.proofs.scopes.hand.Goals as goal

pub returns-then-is_plan : goal.returns-then-is_plan
returns-then-is_plan g c =
    let k = c.kind-kind.ensures in
    rw c.children-below.ensures.is
    (hand_plan _ _ (scope_at c.args.here) _ (rw k at c.view_of.ensures) (sym (rw k at c.is_plan.ensures) ∙ c.if-is_plan.true))

pub returns : goal.returns
returns g c =
    let k = c.kind-kind.ensures in
    hand_part _ _ c.args.here.view _ (sym (rw k at c.is_plan.ensures) ∙ c.if-is_plan.false)
    (rw k at c.first_view.ensures) (rw k at c.rest_view.ensures)
