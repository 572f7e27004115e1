-- Depths of a flat tree: read from its bytes, and compared with the depth of the tree.
-- Assumes nothing.
use mathlib.Core.Path.{◌≡◌, refl, sym}
use mathlib.Core.Bool.{Bool, true, false, ◌&&◌}
use mathlib.Core.List.{List, [], ◌∷◌, ◌++◌, append_assoc}
use Prim.Native.Nat.{ℕ, zero, suc, ◌+◌, ◌-◌, ◌*◌, ◌≤◌, ◌<◌}
use native.Mathlib.Omega.{arith}
use lib.Dec.{eqb, leb}
use Rattle.std.specs.List.{list_all, range_with_len}
use lib.ListN.{length, get_or}
use borrow.Author.Tests.{eqb-false, eqb-true, leb-false, leb-true, le-leb}
use Rattle.image.specs.Limits.{max_depth, max_records, max_below}
use Rattle.image.specs.Word.{word}
use Rattle.image.specs.Tree.{Forest, none, node, Tree, size, Deep}
use Rattle.image.specs.Flat.{size_t, bytes_of, flat}
use Rattle.image.proofs.Writing.{bytes_of_length}
use Rattle.image.specs.Records.{Rec, recs_any, recs, flats}
use Rattle.image.proofs.Relinking.{flats_flat, recs_length, word_right, depth_of, Shallow, shallow, shallow_at}
use Rattle.plan.specs.Measure.{depth, depth_t}

-- ---- a depth is read back

-- each depth is a word
abbrev Low : List Rec → Type 0
Low [] = Unit {0}
Low (x ∷ xs) = (x.1 < 4294967296) × Low xs

low_append : (xs ys : List Rec) → Low xs → Low ys → Low (xs ++ ys)
low_append [] ys h k = k
low_append (x ∷ xs) ys h k = (h.0, low_append xs ys h.1 k)

low_any : (f : Forest) (d : ℕ) → d + size f < 4294967296 → Low (recs_any d f)
low_any none d h = tt
low_any (node l cs ns) d h =
    (omega arith, low_append (recs_any (d + 1) cs) (recs_any d ns) (low_any cs (d + 1) (omega arith)) (low_any ns d (omega arith)))

depth_in : (xs : List Rec) (i : ℕ) (rest : List ℕ) (z : Rec) → Low xs → i < length xs
    → word (flats xs ++ rest) (32 * i + 24) ≡ (get_or xs i z).1
depth_in [] i rest z h lt = absurd (omega arith)
depth_in (x ∷ xs) zero rest z h lt =
    rw (append_assoc (bytes_of x.0 x.1 0) (flats xs) rest) (depth_of x.0 x.1 (flats xs ++ rest) h.0)
depth_in (x ∷ xs) (suc i) rest z h lt =
    let b : List ℕ = bytes_of x.0 x.1 0 in
    let e : 32 * suc i + 24 ≡ length b + (32 * i + 24) = omega (arith, bytes_of_length x.0 x.1 0) in
    rw (append_assoc b (flats xs) rest, e, word_right b (flats xs ++ rest) (32 * i + 24)) (depth_in xs i rest z h.1 (omega arith))

-- the first record
abbrev pub first : Tree → Rec
first t = (t.label, 1)

-- the depth of record i
pub depth_at : (t : Tree) (i : ℕ) (out rest : List ℕ) → out ≡ flat 1 t ++ rest → size_t t ≤ max_records → i < size_t t
    → word out (32 * i + 24) ≡ (get_or (recs 1 t) i (first t)).1
depth_at t i out rest e small lt =
    rw (e, ← flats_flat 1 t)
    (depth_in (recs 1 t) i rest (first t) (omega arith, low_any t.below 2 (omega arith)) (rw recs_length lt))

-- ---- the depth of a tree

deep_depth : (f : Forest) (k : ℕ) → Deep f k → depth f ≤ k
unfolding depth
deep_depth none k h = omega arith
deep_depth (node l cs ns) k h = omega (arith, h.0, deep_depth cs (k - 1) h.1, deep_depth ns k h.2)

depth_deep : (f : Forest) (k : ℕ) → depth f ≤ k → Deep f k
unfolding depth
depth_deep none k h = tt
depth_deep (node l cs ns) k h = (omega arith, depth_deep cs (k - 1) (omega arith), depth_deep ns k (omega arith))

-- a tree whose depth is tested is no deeper than `max_depth`
pub tested_deep : (t : Tree) → leb (depth_t t) max_depth ≡ true → Deep t.below max_below
tested_deep t e = depth_deep t.below max_below (omega (arith, leb-true (depth_t t) max_depth e))

-- a tree no deeper than `max_depth` passes the test
pub deep_tested : (t : Tree) → Deep t.below max_below → leb (depth_t t) max_depth ≡ true
deep_tested t h = le-leb (depth_t t) max_depth (omega (arith, deep_depth t.below max_below h))

-- ---- the test of each record

shallow_split : (xs ys : List Rec) → Shallow (xs ++ ys) → Shallow xs × Shallow ys
shallow_split [] ys h = (tt, h)
shallow_split (x ∷ xs) ys h = let k = shallow_split xs ys h.1 in ((h.0, k.0), k.1)

deep_of : (f : Forest) (d k : ℕ) → d + k ≡ (max_depth + 1) → Shallow (recs_any d f) → Deep f k
deep_of none d k e h = tt
deep_of (node l cs ns) d k e h =
    let s = shallow_split (recs_any (d + 1) cs) (recs_any d ns) h.1 in
    (omega (arith, h.0), deep_of cs (d + 1) (k - 1) (omega (arith, h.0)) s.0, deep_of ns d k e s.1)

all_shallow : (xs : List Rec) (z : Rec) → ((j : ℕ) → j < length xs → (get_or xs j z).1 ≤ max_depth) → Shallow xs
all_shallow [] z h = tt
all_shallow (x ∷ xs) z h = (omega (arith, h 0 (omega arith)), all_shallow xs z (λ j lt. h (suc j) (omega arith)))

-- where no record is too deep, the tree is not
pub passed : (t : Tree) (n : ℕ) → n ≡ size_t t → ((j : ℕ) → j < n → (get_or (recs 1 t) j (first t)).1 ≤ max_depth) → true ≡ leb (depth_t t) max_depth
passed t n e h =
    let s = all_shallow (recs 1 t) (first t) (λ j lt. h j (omega (arith, recs_length 1 t))) in
    sym (deep_tested t (deep_of t.below 2 max_below refl s.1))

-- where one is, the tree is
pub failed : (t : Tree) (i : ℕ) → i < size_t t → max_depth < (get_or (recs 1 t) i (first t)).1 → false ≡ leb (depth_t t) max_depth
failed t i lt h = go (leb (depth_t t) max_depth) refl
  where
    go : (b : Bool) → leb (depth_t t) max_depth ≡ b → false ≡ leb (depth_t t) max_depth
    go false e = sym e
    go true e = absurd (omega (arith, shallow_at (recs 1 t) i (first t) (shallow t (tested_deep t e)) (rw recs_length lt)))

-- ---- a test of each record

range_all : (p : ℕ → Bool) (b : Bool) (n a : ℕ) → (((j : ℕ) → a ≤ j → j < a + n → p j ≡ true) → true ≡ b)
    → ((j : ℕ) → a ≤ j → j < a + n → p j ≡ false → false ≡ b) → list_all p (range_with_len a n) ≡ b
range_all p b zero a good bad = good (λ j le lt. absurd (omega arith))
range_all p b (suc n) a good bad = go (p a) refl (range_all p b n (a + 1))
  where
    here : p a ≡ true → ((j : ℕ) → a + 1 ≤ j → j < a + 1 + n → p j ≡ true) → (j : ℕ) → a ≤ j → j < a + suc n → (v : Bool) → eqb j a ≡ v
        → p j ≡ true
    here e h j le lt true k = rw (eqb-true j a k) e
    here e h j le lt false k = let z = eqb-false j a k in h j (omega arith) (omega arith)

    go : (v : Bool) → p a ≡ v
        → ((((j : ℕ) → a + 1 ≤ j → j < a + 1 + n → p j ≡ true) → true ≡ b) → ((j : ℕ) → a + 1 ≤ j → j < a + 1 + n → p j ≡ false → false ≡ b)
        → list_all p (range_with_len (a + 1) n) ≡ b)
        → (v && list_all p (range_with_len (a + 1) n)) ≡ b
    go false e rest = bad a (omega arith) (omega arith) e
    go true e rest =
        rest (λ h. good (λ j le lt. here e h j le lt (eqb j a) refl)) (λ j le lt. bad j (omega arith) (omega arith))

-- the depths that stand in a flat tree are all small enough exactly if the tree's is
pub flat_shallow : (t : Tree) (n : ℕ) (out rest : List ℕ) → n ≡ size_t t → size_t t ≤ max_records → out ≡ flat 1 t ++ rest
    → list_all (λ i. leb (word out (32 * i + 24)) max_depth) (range_with_len 0 n) ≡ leb (depth_t t) max_depth
flat_shallow t n out rest e small f =
    range_all (λ i. leb (word out (32 * i + 24)) max_depth) (leb (depth_t t) max_depth) n 0
    (λ h. passed t n e (λ j lt. omega (
      arith,
      leb-true (word out (32 * j + 24)) max_depth (h j (omega arith) (omega arith)),
      depth_at t j out rest f small (omega arith),
    )))
    (λ j le lt k. failed t j (omega arith)
    (omega (arith, leb-false (word out (32 * j + 24)) max_depth k, depth_at t j out rest f small (omega arith))))
