-- Laws of Booleans. The code's `&` on them is `◌&&◌`, the definitions' is `◌&◌`: they are the same.
-- Assumes nothing.
use mathlib.Core.Path.{◌≡◌, refl, sym}
use mathlib.Core.Bool.{Bool, true, false, not, ◌&&◌, ◌||◌}
use Prim.Native.Nat.{ℕ}
use native.Mathlib.Omega.{arith}
use Rattle.plan.specs.Lists.{◌&◌}

pub both : (a b : Bool) → (a && b) ≡ (a & b)
unfolding ◌&◌
both true b = refl
both false b = refl

-- where both are true, each is
pub and_left : (a b : Bool) → (a && b) ≡ true → a ≡ true
and_left true b h = refl
and_left false b h = h

pub and_right : (a b : Bool) → (a && b) ≡ true → b ≡ true
and_right true b h = h
and_right false b h = cc

-- a Boolean that is true just where another is
pub same_truth : (a b : Bool) → (a ≡ true → b ≡ true) → (b ≡ true → a ≡ true) → a ≡ b
same_truth true b f g = sym (f refl)
same_truth false true f g = g refl
same_truth false false f g = refl

-- from nothing true follows anything
pub no_yes : {A : Type 0} → false ≡ true → A
no_yes e = let z : ◌≡◌ {A = ℕ} 0 1 = cc in absurd (omega arith)

-- where neither of two is true, each is false
pub neither_left : (a b : Bool) → a || b ≡ false → a ≡ false
neither_left true b h = h
neither_left false b h = refl

pub neither_right : (a b : Bool) → a || b ≡ false → b ≡ false
neither_right true b h = no_yes (sym h)
neither_right false b h = h

-- a test that is negated
pub told : {b : Bool} → not b ≡ false → b ≡ true
told {b = true} e = refl
told {b = false} e = no_yes (sym e)

pub untold : {b : Bool} → not b ≡ true → b ≡ false
untold {b = true} e = no_yes e
untold {b = false} e = refl
