-- Laws of three-valued logic.
use mathlib.Core.Path.{◌≡◌, refl}
use mathlib.Core.Bool.{Bool, true, false}
use Rattle.meaning.specs.Meaning.{is_t, tri}

pub is_t_tri : (t f : Bool) → is_t (tri t f) ≡ t
is_t_tri true f = refl
is_t_tri false true = refl
is_t_tri false false = refl
