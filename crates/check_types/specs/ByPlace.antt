-- Types of fields by place.
use Rattle.std.specs.Prelude.{[], ◌∷◌, ℕ, zero, suc}
use Rattle.plan.specs.Syntax.{no_type}
use Rattle.check_fields.specs.Fields.{Schema}

-- the type of the field with this place, or none
unfoldable pub ty_at : ℕ → Schema → ℕ
ty_at k [] = no_type
ty_at zero (f ∷ s) = f.ty
ty_at (suc k) (f ∷ s) = ty_at k s
