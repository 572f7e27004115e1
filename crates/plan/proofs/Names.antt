-- Names in schemas: which schema has a name, schemas without repetition, and what a list over two schemas has at a name.
use native.Mathlib.Omega.{arith}
use mathlib.Core.Path.{◌≡◌, refl, sym, ap₂}
use mathlib.Core.Bool.{Bool, true, false, not, ◌||◌, cond}
use mathlib.Core.List.{List, [], ◌∷◌, ◌++◌}
use lib.ListN.{length}
use lib.Dec.{eqb}
use borrow.Author.Tests.{eqb-true, eq-eqb}
use Rattle.plan.specs.Schema.{has, same, nodup, look_d}
use Rattle.plan.specs.Lists.{◌&◌, any}
use Rattle.plan.proofs.Lists.{and_l, and_r}
use Rattle.plan.specs.Syntax.{Name, nm}

pub same_eq : (x y : Name) → same x y ≡ true → x ≡ y
same_eq (nm q n) (nm r m) h = ap₂ nm (eqb-true q r (and_l _ _ h)) (eqb-true n m (and_r (eqb q r) _ h))

pub same_refl : (x : Name) → same x x ≡ true
unfolding ◌&◌
same_refl (nm q n) = rw (eq-eqb q q refl, eq-eqb n n refl)

pub not_true : (b : Bool) → not b ≡ true → b ≡ false
not_true true h = sym h
not_true false h = refl

has_append : (s t : List Name) (x : Name) → has t x ≡ true → has (s ++ t) x ≡ true
unfolding any
has_append [] t x h = h
has_append (y ∷ s) t x h = or_right (same y x) (has_append s t x h)
  where
    or_right : (a : Bool) {b : Bool} → b ≡ true → a || b ≡ true
    or_right true h = refl
    or_right false h = h

-- what the second part has, the first has not
pub apart : (s t : List Name) → nodup (s ++ t) ≡ true → (x : Name) → has t x ≡ true → has s x ≡ false
unfolding any
apart [] t n x h = refl
apart (y ∷ s) t n x h = go (same y x) refl (apart s t (and_r (not (has (s ++ t) y)) _ n) x h)
  where
    go : (b : Bool) → same y x ≡ b → has s x ≡ false → b || has s x ≡ false
    go true e k = let z : has (s ++ t) y ≡ true = rw (same_eq y x e) (has_append s t x h) in cc (not_true (has (s ++ t) y) (and_l _ _ n))
    go false e k = k

-- a row of the width of the first schema, and what follows it
module _ {A : Type 0} (d : A) where
  pub look_d_left : (s t : List Name) (l r : List A) → length l ≡ length s → (x : Name) → has s x ≡ true → look_d d (s ++ t) (l ++ r) x ≡ look_d d s l x
  unfolding any
  look_d_left [] t l r w x h = cc
  look_d_left (y ∷ s) t [] r w x h = absurd (omega arith)
  look_d_left (y ∷ s) t (v ∷ l) r w x h = go (same y x) h (look_d_left s t l r (omega arith) x)
    where
      go : (b : Bool) → b || has s x ≡ true → (has s x ≡ true → look_d d (s ++ t) (l ++ r) x ≡ look_d d s l x)
          → cond b v (look_d d (s ++ t) (l ++ r) x) ≡ cond b v (look_d d s l x)
      go true h k = refl
      go false h k = k h

  pub look_d_right : (s t : List Name) (l r : List A) → length l ≡ length s → (x : Name) → has s x ≡ false
      → look_d d (s ++ t) (l ++ r) x ≡ look_d d t r x
  unfolding any
  look_d_right [] t [] r w x h = refl
  look_d_right [] t (v ∷ l) r w x h = absurd (omega arith)
  look_d_right (y ∷ s) t [] r w x h = absurd (omega arith)
  look_d_right (y ∷ s) t (v ∷ l) r w x h = go (same y x) h (look_d_right s t l r (omega arith) x)
    where
      go : (b : Bool) → b || has s x ≡ false → (has s x ≡ false → look_d d (s ++ t) (l ++ r) x ≡ look_d d t r x)
          → cond b v (look_d d (s ++ t) (l ++ r) x) ≡ look_d d t r x
      go true h k = cc
      go false h k = k h
