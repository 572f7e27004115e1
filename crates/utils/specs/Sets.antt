-- A set of places: the digits of a number, by twos.
use Rattle.std.specs.Prelude.{Bool, true, not, ◌||◌, ℕ, zero, suc, ◌/◌, ◌%◌, eqb}
use Rattle.plan.specs.Lists.{◌&◌}

-- the place i is in the set v
unfoldable pub member : ℕ → ℕ → Bool
member v zero = eqb (v % 2) 1
member v (suc i) = member (v / 2) i

-- of the places below k, each that is in v is in m
unfoldable pub within : ℕ → ℕ → ℕ → Bool
within zero v m = true
within (suc k) v m = (not (member v k) || member m k) & within k v m
