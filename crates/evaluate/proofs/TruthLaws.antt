-- Laws of truth in three values.
--     as_truth            a truth is TRUE, FALSE or neither
--     of_value, of_value_f    a value's truth is TRUE or FALSE where the value is
--     same_word           two signed numbers are equal exactly if neither is the less
--     and_is              the definitions' And is the code's
-- Assumes nothing.
use mathlib.Core.Path.{◌≡◌, refl, sym, ap, ◌∙◌}
use mathlib.Core.Bool.{Bool, true, false, ◌&&◌}
use Prim.Native.Nat.{ℕ}
use native.Mathlib.Nat.{le_antisymm}
use native.Mathlib.Omega.{arith}
use lib.Dec.{eqb}
use lib.IntN.{ℤ, pos, negsuc}
use lib.Signed.{le_z}
use mir.Syntax.{w64}
use mir.Val.{to_z, of_z, SFits}
use mir.ValLaws.{to_z-of_z}
use borrow.Author.Tests.{eqb-true, eqb-false, leb-true, le-leb}
use Rattle.plan.specs.Lists.{◌&◌}
use Rattle.plan.specs.Syntax.{Value, null, int, truth}
use Rattle.meaning.specs.Meaning.{tri, is_t, is_f}
use Rattle.evaluate.specs.Truths.{value_of}
use Rattle.evaluate.specs.declared.logic.Truth.{Truth}
use Rattle.evaluate.specs.declared.logic.Truth.TheVariants.{False, True, Unknown}

pub as_truth : (t : Truth) → tri (is_t (value_of t)) (is_f (value_of t)) ≡ value_of t
as_truth False = refl
as_truth True = refl
as_truth Unknown = refl

pub of_value : (v : Value) → is_t (tri (is_t v) (is_f v)) ≡ is_t v
of_value null = refl
of_value (int z) = refl
of_value (truth true) = refl
of_value (truth false) = refl

pub of_value_f : (v : Value) → is_f (tri (is_t v) (is_f v)) ≡ is_f v
of_value_f null = refl
of_value_f (int z) = refl
of_value_f (truth true) = refl
of_value_f (truth false) = refl

pub and_is : (a b : Bool) → a & b ≡ (a && b)
unfolding ◌&◌
and_is true b = refl
and_is false b = refl

-- ---- signed numbers

le_refl : (a : ℤ) → le_z a a ≡ true
le_refl (pos n) = le-leb n n (omega arith)
le_refl (negsuc n) = le-leb n n (omega arith)

pub never : {X : Type 0} → false ≡ true → X
never e = let z : ◌≡◌ {A = ℕ} 0 1 = cc in absurd (omega arith)

le_both : (a b : ℤ) → le_z a b ≡ true → le_z b a ≡ true → a ≡ b
le_both (pos a) (pos b) h k = ap pos (le_antisymm (leb-true a b h) (leb-true b a k))
le_both (pos a) (negsuc b) h k = never h
le_both (negsuc a) (pos b) h k = never k
le_both (negsuc a) (negsuc b) h k = ap negsuc (le_antisymm (leb-true a b k) (leb-true b a h))

pub same_word : (a b : ℤ) → SFits w64 a → SFits w64 b → eqb (of_z w64 a) (of_z w64 b) ≡ le_z a b & le_z b a
unfolding ◌&◌
same_word a b f g = go (eqb (of_z w64 a) (of_z w64 b)) refl
  where
    differ : (x y : Bool) → le_z a b ≡ x → le_z b a ≡ y → (a ≡ b → ⊥) → false ≡ x & y
    differ true true e h n = absurd (n (le_both a b e h))
    differ true false e h n = refl
    differ false y e h n = refl

    go : (x : Bool) → eqb (of_z w64 a) (of_z w64 b) ≡ x → x ≡ le_z a b & le_z b a
    go true e =
        let s : a ≡ b = sym (to_z-of_z w64 a f) ∙ ap (to_z w64) (eqb-true (of_z w64 a) (of_z w64 b) e) ∙ to_z-of_z w64 b g in
        rw (s, le_refl b)
    go false e = differ (le_z a b) (le_z b a) refl refl (λ s. eqb-false (of_z w64 a) (of_z w64 b) e (ap (of_z w64) s))
