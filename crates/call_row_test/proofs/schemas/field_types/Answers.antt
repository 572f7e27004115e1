use mathlib.Core.Path.{ap, ◌∙◌}
use native.Mathlib.Omega.{arith}
use Rattle.check_types.specs.ByPlace.{ty_at}
use Rattle.call_row_test.proofs.FieldTypes.{by_place}
use Rattle.call_row_test.proofs.schemas.field_types.Goals as goal

pub returns : goal.returns
returns g c =
    λ e. by_place _ _ _ e (omega arith) (λ m l. c.loop-k.invariant.1 m (omega arith) ∙ ap (ty_at m) c.first_plan-fields.ensures)
