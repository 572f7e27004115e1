-- Laws of a row that is lent as values and marks.
--     lent_at         a cell of the row, by place
--     lent_short      past the end of types, values or marks there is none
--     look_place      what a column has is what has the first place of its name
-- Assumes nothing.
use mathlib.Core.Path.{◌≡◌, refl, ap, ◌∙◌}
use mathlib.Core.Bool.{Bool, true, false, not, ◌||◌, cond}
use mathlib.Core.List.{List, [], ◌∷◌}
use Prim.Native.Nat.{ℕ, zero, suc, ◌+◌, ◌≤◌, ◌<◌}
use native.Mathlib.Numerals.{add-one}
use native.Mathlib.Omega.{arith}
use lib.Dec.{eqb, leb}
use lib.IntN.{ℤ, pos, negsuc}
use lib.ListN.{length, get_or, drop}
use lib.Seq.{drop-cons}
use lib.Signed.{lt_z, le_z}
use borrow.Author.Tests.{lt-ltb, lt-leb, ne_eqb, eq-eqb, eqb-true, leb-true, leb-false}
use Rattle.plan.specs.Lists.{◌&◌}
use Rattle.plan.proofs.Lists.{and_r}
use Rattle.plan.specs.Schema.{same, look_d}
use Rattle.plan.specs.Syntax.{Name, Value, null}
use Rattle.rewrite.specs.RowTest.{cell, lent, cell_ok, row_ok}
use Rattle.utils.specs.Fields.{place_in}

-- a number is above 0 exactly if it is not 0 or below
pub above_zero : (z : ℤ) → lt_z (pos 0) z ≡ not (le_z z (pos 0))
above_zero (pos zero) = refl
above_zero (pos (suc n)) = rw (lt-ltb 0 (suc n) (omega arith), lt-leb (suc n) 0 (omega arith))
above_zero (negsuc n) = refl

-- a mark that is not 1 is as good as 0
pub unmarked : (ty mark : ℕ) (z : ℤ) → (mark ≡ 1 → ⊥) → cell ty z 0 ≡ cell ty z mark
unfolding cell
unmarked ty mark z n = rw (ne_eqb mark 1 n)

-- a number as a local holds it
pub held : (ty : ℕ) {a z : ℤ} {v : Value} → a ≡ z → cell ty z 0 ≡ v → cell ty a 0 ≡ v
held ty e h = ap (λ x. cell ty x 0) e ∙ h

pub held_ok : (ty mark : ℕ) {a z : ℤ} → a ≡ z → cell_ok ty a mark ≡ cell_ok ty z mark
held_ok ty mark e = ap (λ x. cell_ok ty x mark) e

-- under the mark 1 the cell is NULL
pub marked_null : (ty mark : ℕ) (z : ℤ) → mark ≡ 1 → null ≡ cell ty z mark
unfolding cell
marked_null ty mark z e = rw e

pub lent_at : (d : ℤ) (ts : List ℕ) (zs : List ℤ) (ms : List ℕ) (i : ℕ) → i < length ts → i < length zs → i < length ms
    → get_or (lent ts zs ms) i null ≡ cell (get_or ts i 0) (get_or zs i d) (get_or ms i 0)
unfolding lent
lent_at d [] zs ms i a b e = absurd (omega arith)
lent_at d (t ∷ ts) [] ms i a b e = absurd (omega arith)
lent_at d (t ∷ ts) (z ∷ zs) [] i a b e = absurd (omega arith)
lent_at d (t ∷ ts) (z ∷ zs) (m ∷ ms) zero a b e = refl
lent_at d (t ∷ ts) (z ∷ zs) (m ∷ ms) (suc i) a b e = lent_at d ts zs ms i (omega arith) (omega arith) (omega arith)

-- one of the three is not longer than i
pub data Short (i a b c : ℕ) : Type 0 where
  first : a ≤ i → Short i a b c
  second : b ≤ i → Short i a b c
  third : c ≤ i → Short i a b c

fewer : {i a b c : ℕ} → Short (suc i) (suc a) (suc b) (suc c) → Short i a b c
fewer (first h) = first (omega arith)
fewer (second h) = second (omega arith)
fewer (third h) = third (omega arith)

none_left : {a b c : ℕ} {X : Type 0} → Short zero (suc a) (suc b) (suc c) → X
none_left (first h) = absurd (omega arith)
none_left (second h) = absurd (omega arith)
none_left (third h) = absurd (omega arith)

pub lent_short : (ts : List ℕ) (zs : List ℤ) (ms : List ℕ) (i : ℕ) → Short i (length ts) (length zs) (length ms)
    → null ≡ get_or (lent ts zs ms) i null
unfolding lent
lent_short [] zs ms i h = refl
lent_short (t ∷ ts) [] ms i h = refl
lent_short (t ∷ ts) (z ∷ zs) [] i h = refl
lent_short (t ∷ ts) (z ∷ zs) (m ∷ ms) zero h = none_left h
lent_short (t ∷ ts) (z ∷ zs) (m ∷ ms) (suc i) h = lent_short ts zs ms i (fewer h)

-- a test of two lengths, passed or failed
pub short_by : {i a b c : ℕ} → (leb b i || leb c i) ≡ true → Short i a b c
short_by {i} {a} {b} {c} e = go (leb b i) refl e
  where
    go : (x : Bool) → leb b i ≡ x → (x || leb c i) ≡ true → Short i a b c
    go true h e = second (leb-true b i h)
    go false h e = third (leb-true c i e)

module _ (i b c : ℕ) (e : (leb b i || leb c i) ≡ false) where
  -- neither test is passed
  pub long_by : (i < b) × (i < c)
  long_by = go (leb b i) refl e
    where
      go : (x : Bool) → leb b i ≡ x → (x || leb c i) ≡ false → (i < b) × (i < c)
      go true h k = let z : ◌≡◌ {A = ℕ} 0 1 = cc in absurd (omega arith)
      go false h k = (leb-false b i h, leb-false c i k)

pub look_place : {A : Type 0} (d : A) (ns : List Name) (r : List A) (x : Name) → length r ≤ length ns → get_or r (place_in ns x) d ≡ look_d d ns r x
unfolding place_in
look_place d [] [] x h = refl
look_place d [] (v ∷ r) x h = absurd (omega arith)
look_place d (y ∷ ns) [] x h = refl
look_place d (y ∷ ns) (v ∷ r) x h = go (same y x) (look_place d ns r x (omega arith))
  where
    go : (b : Bool) → get_or r (place_in ns x) d ≡ look_d d ns r x → get_or (v ∷ r) (cond b 0 (suc (place_in ns x))) d ≡ cond b v (look_d d ns r x)
    go true e = refl
    go false e = e

-- past the end of a list there is nothing
pub none_there : {A : Type 0} (d : A) (l : List A) (i : ℕ) → length l ≤ i → d ≡ get_or l i d
none_there d [] i h = refl
none_there d (x ∷ l) zero h = absurd (omega arith)
none_there d (x ∷ l) (suc i) h = none_there d l i (omega arith)

pub lent_length : (ts : List ℕ) (zs : List ℤ) (ms : List ℕ) → length (lent ts zs ms) ≤ length ts
unfolding lent
lent_length [] zs ms = omega arith
lent_length (t ∷ ts) [] ms = omega arith
lent_length (t ∷ ts) (z ∷ zs) [] = omega arith
lent_length (t ∷ ts) (z ∷ zs) (m ∷ ms) = omega (arith, lent_length ts zs ms)

-- ---- the tests of a row

pub past_one : {m : ℕ} → (m ≡ 1 → ⊥) → (m ≡ 0 → ⊥) → 1 < m
past_one a b = omega arith

-- a row of the right form has as many values and marks as fields
row_long : (ts : List ℕ) (zs : List ℤ) (ms : List ℕ) → row_ok ts zs ms ≡ true → (length zs ≡ length ts) × (length ms ≡ length ts)
unfolding row_ok
row_long [] [] [] h = (refl, refl)
row_long [] [] (m ∷ ms) h = let z : ◌≡◌ {A = ℕ} 0 1 = cc in absurd (omega arith)
row_long [] (z ∷ zs) ms h = let z : ◌≡◌ {A = ℕ} 0 1 = cc in absurd (omega arith)
row_long (t ∷ ts) [] ms h = let z : ◌≡◌ {A = ℕ} 0 1 = cc in absurd (omega arith)
row_long (t ∷ ts) (z ∷ zs) [] h = let z : ◌≡◌ {A = ℕ} 0 1 = cc in absurd (omega arith)
row_long (t ∷ ts) (z ∷ zs) (m ∷ ms) h = let k = row_long ts zs ms (and_r _ _ h) in (ap suc k.0, ap suc k.1)

pub same_lengths : (a b n : ℕ) → (not (eqb a n) || not (eqb b n)) ≡ false → (a ≡ n) × (b ≡ n)
same_lengths a b n e = go (eqb a n) refl (eqb b n) refl e
  where
    go : (x : Bool) → eqb a n ≡ x → (y : Bool) → eqb b n ≡ y → (not x || not y) ≡ false → (a ≡ n) × (b ≡ n)
    go true h true k e = (eqb-true a n h, eqb-true b n k)
    go true h false k e = let z : ◌≡◌ {A = ℕ} 0 1 = cc in absurd (omega arith)
    go false h y k e = let z : ◌≡◌ {A = ℕ} 0 1 = cc in absurd (omega arith)

pub row_short : (ts : List ℕ) (zs : List ℤ) (ms : List ℕ) → (not (eqb (length zs) (length ts)) || not (eqb (length ms) (length ts))) ≡ true
    → false ≡ row_ok ts zs ms
row_short ts zs ms e = go (row_ok ts zs ms) refl
  where
    go : (b : Bool) → row_ok ts zs ms ≡ b → false ≡ b
    go false h = refl
    go true h = let k = row_long ts zs ms h in
        let w : false ≡ true = rw (eq-eqb (length zs) (length ts) k.0, eq-eqb (length ms) (length ts) k.1) at e in w

-- one field of it, and the rest
pub row_step : (ts : List ℕ) (zs : List ℤ) (ms : List ℕ) (i : ℕ) → i < length ts → i < length zs → i < length ms
    → row_ok (drop i ts) (drop i zs) (drop i ms)
    ≡ cell_ok (get_or ts i 0) (get_or zs i (pos 0)) (get_or ms i 0) & row_ok (drop (i + 1) ts) (drop (i + 1) zs) (drop (i + 1) ms)
unfolding row_ok
row_step ts zs ms i a b c = rw (drop-cons ts i 0 a, drop-cons zs i (pos 0) b, drop-cons ms i 0 c, add-one i)

drop_all : {A : Type 0} (i : ℕ) (l : List A) → length l ≤ i → drop i l ≡ []
drop_all zero [] h = refl
drop_all zero (x ∷ l) h = absurd (omega arith)
drop_all (suc i) [] h = refl
drop_all (suc i) (x ∷ l) h = drop_all i l (omega arith)

pub row_end : (ts : List ℕ) (zs : List ℤ) (ms : List ℕ) (i : ℕ) → length ts ≤ i → length zs ≡ length ts → length ms ≡ length ts
    → row_ok (drop i ts) (drop i zs) (drop i ms) ≡ true
unfolding row_ok
row_end ts zs ms i a b c = rw (drop_all i ts a, drop_all i zs (omega arith), drop_all i ms (omega arith))
