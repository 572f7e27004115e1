-- Columns in order: by qualifier, then by name.
-- Assumes nothing.
use mathlib.Core.Path.{◌≡◌, refl, subst}
use mathlib.Core.Bool.{Bool, true, false, ◌||◌}
use mathlib.Core.Logic.{◌⊎◌, inl, inr}
use Prim.Native.Nat.{ℕ, ◌<◌}
use native.Mathlib.Omega.{arith}
use lib.Dec.{eqb, ltb}
use borrow.Author.Tests.{ltb-true, ltb-false, lt-ltb, le-ltb, eqb-true, eq-eqb}
use Rattle.plan.specs.Syntax.{Name, nm}
use Rattle.plan.specs.Schema.{same}
use Rattle.plan.specs.Lists.{◌&◌}
use Rattle.plan.proofs.Names.{same_eq}
use Rattle.rewrite.specs.SimplifyPredicates.{name_under}

-- what it says, in numbers
Under : Name → Name → Type 0
Under (nm q n) (nm r m) = (q < r) ⊎ ((q ≡ r) × (n < m))

under : (x y : Name) → Under x y → name_under x y ≡ true
unfolding Under ◌&◌
under (nm q n) (nm r m) (inl h) = rw (lt-ltb q r h)
under (nm q n) (nm r m) (inr h) = rw (le-ltb q r (omega arith), eq-eqb q r h.0, lt-ltb n m h.1)

is_under : (x y : Name) → name_under x y ≡ true → Under x y
unfolding Under ◌&◌
is_under (nm q n) (nm r m) h = go (ltb q r) refl (eqb q r) refl (ltb n m) refl h
  where
    go : (a : Bool) → ltb q r ≡ a → (b : Bool) → eqb q r ≡ b → (c : Bool) → ltb n m ≡ c → (a || (b & c)) ≡ true → (q < r) ⊎ ((q ≡ r) × (n < m))
    go true e b f c g t = inl (ltb-true q r e)
    go false e true f true g t = inr (eqb-true q r f, ltb-true n m g)
    go false e true f false g t = let z : ◌≡◌ {A = ℕ} 0 1 = cc in absurd (omega arith)
    go false e false f c g t = let z : ◌≡◌ {A = ℕ} 0 1 = cc in absurd (omega arith)

joined : (x y z : Name) → Under x y → Under y z → Under x z
unfolding Under
joined (nm q n) (nm r m) (nm s k) (inl a) (inl b) = inl (omega arith)
joined (nm q n) (nm r m) (nm s k) (inl a) (inr b) = inl (omega arith)
joined (nm q n) (nm r m) (nm s k) (inr a) (inl b) = inl (omega arith)
joined (nm q n) (nm r m) (nm s k) (inr a) (inr b) = inr (omega arith, omega arith)

never : (x : Name) → Under x x → ⊥
unfolding Under
never (nm q n) (inl h) = omega arith
never (nm q n) (inr h) = omega arith

pub under_trans : (x y z : Name) → name_under x y ≡ true → name_under y z ≡ true → name_under x z ≡ true
under_trans x y z h k = under x z (joined x y z (is_under x y h) (is_under y z k))

false_if : (b : Bool) → (b ≡ true → ⊥) → b ≡ false
false_if true h = absurd (h refl)
false_if false h = refl

pub under_self : (x : Name) → name_under x x ≡ false
under_self x = false_if (name_under x x) (λ h. never x (is_under x x h))

pub under_asym : (x y : Name) → name_under x y ≡ true → name_under y x ≡ false
under_asym x y h = false_if (name_under y x) (λ k. never x (joined x y x (is_under x y h) (is_under y x k)))

-- of two that are not the same one comes first
pub under_else : (x y : Name) → same x y ≡ false → name_under y x ≡ false → name_under x y ≡ true
unfolding ◌&◌
under_else (nm q n) (nm r m) h k = go (ltb q r) refl (ltb r q) refl (ltb n m) refl (ltb m n) refl h k
  where
    go : (a : Bool) → ltb q r ≡ a → (b : Bool) → ltb r q ≡ b → (c : Bool) → ltb n m ≡ c → (d : Bool) → ltb m n ≡ d
        → eqb q r & eqb n m ≡ false → (b || (eqb r q & d)) ≡ false → (a || (eqb q r & c)) ≡ true
    go true ea b eb c ec d ed s t = refl
    go false ea true eb c ec d ed s t = cc
    go false ea false eb true ec d ed s t = rw (eq-eqb q r (omega (arith, ltb-false q r ea, ltb-false r q eb)))
    go false ea false eb false ec true ed s t =
        let z : eqb r q ≡ true = eq-eqb r q (omega (arith, ltb-false q r ea, ltb-false r q eb)) in
        let w : true ≡ false = rw z at t in cc
    go false ea false eb false ec false ed s t =
        let x : eqb q r ≡ true = eq-eqb q r (omega (arith, ltb-false q r ea, ltb-false r q eb)) in
        let y : eqb n m ≡ true = eq-eqb n m (omega (arith, ltb-false n m ec, ltb-false m n ed)) in
        let w : true ≡ false = rw (x, y) at s in cc

pub under_apart : (x y : Name) → name_under x y ≡ true → same x y ≡ false
under_apart x y h = false_if (same x y) (λ k. never y (subst (λ (z : Name). Under z y) (same_eq x y k) (is_under x y h)))
