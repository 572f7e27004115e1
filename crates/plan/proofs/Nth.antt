-- A number that is no later entry's has the first entry of a list. Assumes nothing.
use mathlib.Core.Path.{◌≡◌, refl}
use mathlib.Core.List.{List, [], ◌∷◌}
use Prim.Native.Nat.{ℕ, zero, suc, ◌+◌, ◌-◌, ◌≤◌}
use native.Mathlib.Omega.{arith}
use lib.ListN.{length}
use Rattle.plan.specs.Read.{nth}

past : {A : Type 0} (d : A) (xs : List A) (i : ℕ) → length xs ≤ i → nth d xs i ≡ d
unfolding nth
past d [] i h = refl
past d (x ∷ xs) zero h = absurd (omega arith)
past d (x ∷ xs) (suc i) h = past d xs i (omega arith)

pub nth_first : {A : Type 0} (d : A) (xs : List A) (p : ℕ) → (2 ≤ p → p ≤ length xs + 1 → ⊥) → nth d (d ∷ xs) (p - 1) ≡ d
unfolding nth
nth_first d xs p h = go (p - 1) refl
  where
    go : (i : ℕ) → p - 1 ≡ i → nth d (d ∷ xs) i ≡ d
    go zero k = refl
    go (suc i) k = past d xs i (few (length xs) (λ n. h (omega arith) (omega arith)))
      where
        few : (n : ℕ) → (suc i ≤ n → ⊥) → n ≤ i
        few n f = omega (arith, f)
