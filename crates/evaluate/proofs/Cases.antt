-- A comparison of two value records is the definition's of the values that they hold.
-- Assumes nothing.
use mathlib.Core.Path.{◌≡◌, refl}
use mathlib.Core.Bool.{Bool, true, false, not, ◌||◌}
use Prim.Native.Nat.{ℕ}
use lib.Dec.{eqb}
use lib.IntN.{ℤ}
use Rattle.plan.specs.Lists.{◌&◌}
use Rattle.plan.specs.Syntax.{Value, null, truth, Cmp}
use Rattle.meaning.specs.Meaning.{is_n, kind_of, code, holds, comparable, compared}

neither : (n e : Bool) → not n & e ≡ not (n || not e)
unfolding ◌&◌
neither true e = refl
neither false true = refl
neither false false = refl

module _ (c : Cmp) (x y : Value) {n : Bool} {k l : ℕ} (e : n ≡ is_n x) (f : k ≡ kind_of x) (g : l ≡ kind_of y) where
  alike : comparable x y ≡ not (n || not (eqb k l))
  alike = rw (← e, ← f, ← g) (neither n (eqb k l))

  pub not_compared : (n || not (eqb k l)) ≡ true → null ≡ compared c x y
  not_compared h = rw (alike, h)

  pub two_compared : {i j : ℤ} → (n || not (eqb k l)) ≡ false → i ≡ code x → j ≡ code y → truth (holds c i j) ≡ compared c x y
  two_compared h u v = rw (alike, h, ← u, ← v)
