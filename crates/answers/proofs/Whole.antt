-- An image written flat, record by record.
--     begun           what was written from the start on
--     record_step     the record i of the flat tree: the label at record i of the image, and its depth
--     run_next        one more record is written
-- Assumes nothing.
use mathlib.Core.Path.{◌≡◌, refl, sym, ap, subst, ◌∙◌}
use mathlib.Core.Bool.{Bool, true, false}
use mathlib.Core.List.{List, [], ◌∷◌, ◌++◌, append-nil}
use Prim.Native.Nat.{ℕ, zero, suc, ◌+◌, ◌-◌, ◌*◌, ◌≤◌, ◌<◌}
use native.Mathlib.Nat.{add-zero, zero-add}
use native.Mathlib.Omega.{arith}
use lib.Dec.{leb}
use lib.ListN.{length, get_or, take, drop, get_or-append, drop_of_length-le}
use lib.Seq.{sets, sets-eq, slice, take-add, take-append-add, length-take-le, drop_at, drop-drop, drop-append-add, get_or-append-add}
use borrow.Author.Tests.{leb-true, leb-false}
use Rattle.image.specs.Limits.{work_bytes, max_records, no_room}
use Rattle.image.specs.Word.{word}
use Rattle.image.specs.Tree.{Forest, none, node, Tree, size, label_at, Stands, At}
use Rattle.image.specs.Flat.{size_t, bytes_of, flat}
use Rattle.image.specs.Room.{cap, Put, Wrote}
use Rattle.image.proofs.Writing.{bytes_of_length, flat_length}
use Rattle.image.proofs.Room.{cap_is, cap_le, cap_add, sets_next}
use Rattle.image.specs.Records.{Rec, recs_any, recs, flats}
use Rattle.image.proofs.Relinking.{flats_flat, recs_any_length, recs_length}
use Rattle.answers.proofs.Depths.{first, depth_at}
use Rattle.answers.specs.Splicing.{Levels, Ran}

-- no count is more than `no_room`
pub wrote_small : {before after : List ℕ} {at level r : ℕ} {t : Tree} → Wrote before after at level r t → r ≤ no_room
wrote_small {at = at} {t = t} w = rw w.next (cap_le (at + size_t t))

-- ---- what was written from the start on

module _ {out out' : List ℕ} {n : ℕ} {t : Tree} (w : Wrote out out' 0 1 n t) where
  -- a tree that has room is counted
  pub begun_size : size_t t ≤ max_records → n ≡ size_t t
  begun_size few = w.next ∙ (ap cap (zero-add (size_t t)) ∙ cap_is (size_t t) (omega arith))

  -- and its bytes are in front
  pub begun : length out ≡ work_bytes → size_t t ≤ max_records → out' ≡ flat 1 t ++ drop (32 * size_t t) out
  begun long few = w.bytes ∙ (sets-eq (flat 1 t) out 0 (omega (arith, flat_length 1 t)) ∙ rw (zero-add, flat_length))

-- ---- the records of a flat tree

-- a part in the middle, from its start on
slice_take : (a m : ℕ) (l : List ℕ) → a ≤ length l → slice a (a + m) l ≡ take m (drop a l)
slice_take a m l le = rw (take-add a m l) (drop_at (take a l) (take m (drop a l)) a (length-take-le a l le))

-- what holds of the element in either of two lists
either_side : (P : Rec → Type 0) (xs ys : List Rec) (j : ℕ) (z : Rec) → (j < length xs → P (get_or xs j z))
    → (length xs ≤ j → P (get_or ys (j - length xs) z)) → P (get_or (xs ++ ys) j z)
either_side P xs ys j z f g = go (leb (length xs) j) refl
  where
    go : (b : Bool) → leb (length xs) j ≡ b → P (get_or (xs ++ ys) j z)
    go false e =
        let lt : j < length xs = leb-false (length xs) j e in
        subst P (sym (get_or-append xs ys z j lt)) (f lt)
    go true e =
        let le : length xs ≤ j = leb-true (length xs) j e in
        let q : j ≡ length xs + (j - length xs) = omega arith in
        subst P (sym (ap (λ (i : ℕ). get_or (xs ++ ys) i z) q ∙ get_or-append-add xs ys (j - length xs) z)) (g le)

-- the label of a record is that at the same record of the image
labels_any : (f : Forest) (s : List ℕ) (b d : ℕ) → Stands f s b → (i : ℕ) (z : Rec) → i < size f
    → label_at (drop (32 * i) s) ≡ (get_or (recs_any d f) i z).0
labels_any none s b d h i z lt = absurd (omega arith)
labels_any (node l cs ns) s b d h zero z lt = h.head.label
labels_any (node l cs ns) s b d h (suc j) z lt =
    let n : length (recs_any (d + 1) cs) ≡ size cs = recs_any_length (d + 1) cs in
    either_side (λ r. label_at (drop (32 * suc j) s) ≡ r.0) (recs_any (d + 1) cs) (recs_any d ns) j z
    (λ a. let e : 32 + 32 * j ≡ 32 * suc j = omega arith in
    rw (drop-drop, e) at (labels_any cs (drop 32 s) (b + 1) (d + 1) h.below j z (omega arith)))
    (λ a. let e : 32 * suc (size cs) + 32 * (j - length (recs_any (d + 1) cs)) ≡ 32 * suc j = omega arith in
    rw (drop-drop, e) at
    (labels_any ns (drop (32 * suc (size cs)) s) (b + 1 + size cs) d h.after (j - length (recs_any (d + 1) cs)) z (omega arith)))

labels : (t : Tree) (s : List ℕ) → At t s 0 → (i : ℕ) (z : Rec) → i < size_t t → label_at (drop (32 * i) s) ≡ (get_or (recs 1 t) i z).0
labels t s h zero z lt = h.head.label
labels t s h (suc j) z lt =
    let e : 32 + 32 * j ≡ 32 * suc j = omega arith in
    rw (drop-drop, e) at (labels_any t.below (drop 32 s) 1 2 h.below j z (omega arith))

-- the record i of records that are written flat
flats_drop : (xs : List Rec) (i : ℕ) (z : Rec) → i < length xs
    → drop (32 * i) (flats xs) ≡ bytes_of (get_or xs i z).0 (get_or xs i z).1 0 ++ drop (32 * (i + 1)) (flats xs)
flats_drop [] i z lt = absurd (omega arith)
flats_drop (x ∷ xs) zero z lt = let b = bytes_of x.0 x.1 0 in rw (drop_at b (flats xs) 32 (bytes_of_length x.0 x.1 0))
flats_drop (x ∷ xs) (suc i) z lt =
    let b : List ℕ = bytes_of x.0 x.1 0 in
    let e : 32 * suc i ≡ length b + 32 * i = omega (arith, bytes_of_length x.0 x.1 0) in
    let e' : 32 * (suc i + 1) ≡ length b + 32 * (i + 1) = omega (arith, bytes_of_length x.0 x.1 0) in
    rw (e, e', drop-append-add b (flats xs) (32 * i), drop-append-add b (flats xs) (32 * (i + 1))) (flats_drop xs i z (omega arith))

-- the record i of the flat tree
pub record_step : (t : Tree) (s : List ℕ) → At t s 0 → size_t t ≤ max_records → (i : ℕ) → i < size_t t
    → drop (32 * i) (flat 1 t)
    ≡ bytes_of (label_at (drop (32 * i) s)) (word (flat 1 t) (32 * i + 24)) 0 ++ drop (32 * (i + 1)) (flat 1 t)
record_step t s h few i lt =
    let z = first t in
    let depth : word (flat 1 t) (32 * i + 24) ≡ (get_or (recs 1 t) i z).1 = depth_at t i (flat 1 t) [] (sym (append-nil (flat 1 t))) few lt in
    let l : label_at (drop (32 * i) s) ≡ (get_or (recs 1 t) i z).0 = labels t s h i z lt in
    rw (depth, l, ← flats_flat 1 t) (flats_drop (recs 1 t) i z (rw recs_length lt))

-- the record i of the first n
part_step : (t : Tree) (s : List ℕ) → At t s 0 → size_t t ≤ max_records → (n i : ℕ) → i < n → n ≤ size_t t
    → slice (32 * i) (32 * n) (flat 1 t)
    ≡ bytes_of (label_at (drop (32 * i) s)) (word (flat 1 t) (32 * i + 24)) 0 ++ slice (32 * (i + 1)) (32 * n) (flat 1 t)
part_step t s h few n i lt le =
    let b : List ℕ = bytes_of (label_at (drop (32 * i) s)) (word (flat 1 t) (32 * i + 24)) 0 in
    let k : 32 * n ≡ 32 * i + (length b + (32 * n - 32 * (i + 1))) =
    omega (arith, bytes_of_length (label_at (drop (32 * i) s)) (word (flat 1 t) (32 * i + 24)) 0) in
    let k' : 32 * n ≡ 32 * (i + 1) + (32 * n - 32 * (i + 1)) = omega arith in
    ap (λ (m : ℕ). slice (32 * i) m (flat 1 t)) k
    ∙ slice_take (32 * i) _ (flat 1 t) (omega (arith, flat_length 1 t))
    ∙ ap (take (length b + (32 * n - 32 * (i + 1)))) (record_step t s h few i (omega arith))
    ∙ take-append-add b (drop (32 * (i + 1)) (flat 1 t)) _
    ∙ ap (b ++◌) (sym (ap (λ (m : ℕ). slice (32 * (i + 1)) m (flat 1 t)) k'
    ∙ slice_take (32 * (i + 1)) _ (flat 1 t) (omega (arith, flat_length 1 t))))

-- ---- records that are written one by one

-- the records from `from` up to n were to be written from record `at` on, and those from i on are left, to be written from record `to` on
pub record Run (t : Tree) (n from : ℕ) (out₀ : List ℕ) (at i : ℕ) (out : List ℕ) (to : ℕ) : Type 0 where
  pub count : cap (to + (n - i)) ≡ cap (at + (n - from))
  pub same : sets out (32 * to) (slice (32 * i) (32 * n) (flat 1 t)) ≡ sets out₀ (32 * at) (slice (32 * from) (32 * n) (flat 1 t))

-- none is written yet
pub run_start : {t : Tree} {n from : ℕ} {out₀ : List ℕ} {at : ℕ} {out : List ℕ} {to : ℕ} → length out₀ ≡ work_bytes → out ≡ out₀ → to ≡ cap at
    → Run t n from out₀ at from out to
run_start {t} {n} {from} {out₀} {at} {out} {to} long b e =
    let v = slice (32 * from) (32 * n) (flat 1 t) in
    record {
      count = rw e (cap_add at (n - from));
      same = ap (λ (o : List ℕ). sets o (32 * to) v) b ∙ sets_next out₀ [] v at 0 to long refl (e ∙ ap cap (sym (add-zero at)));
    }

-- one more is written
pub run_next : {t : Tree} {s l : List ℕ} {n from : ℕ} {out₀ : List ℕ} {at i : ℕ} {out : List ℕ} {to : ℕ} {out' : List ℕ} {to' level : ℕ}
    → At t s 0 → size_t t ≤ max_records → n ≤ size_t t → i < n → length out ≡ work_bytes → Levels l t → level ≡ get_or l i 0
    → Put out out' to level to' (label_at (drop (32 * i) s)) → Run t n from out₀ at i out to → Run t n from out₀ at (i + 1) out' to'
run_next {t} {s} {l} {n} {i = i} {out} {to} {out'} {to'} {level} h few le lt long lv d p r =
    let e = part_step t s h few n i lt le in
    let depth : level ≡ word (flat 1 t) (32 * i + 24) = d ∙ lv.each i (omega arith) in
    let b : List ℕ = bytes_of (label_at (drop (32 * i) s)) (word (flat 1 t) (32 * i + 24)) 0 in
    let bytes : out' ≡ sets out (32 * to) b = rw depth at p.bytes in
    record {
      count = rw (p.next, cap_add) (ap cap (omega arith) ∙ r.count);
      same = rw bytes
          (sets_next out b (slice (32 * (i + 1)) (32 * n) (flat 1 t)) to 1 to' long (bytes_of_length _ _ 0) p.next
          ∙ ap (sets out (32 * to)) (sym e) ∙ r.same);
    }

-- all are written
pub run_end : {t : Tree} {n from : ℕ} {out₀ : List ℕ} {at i : ℕ} {out : List ℕ} {to : ℕ} → n ≤ size_t t → n ≤ i → to ≤ no_room
    → Run t n from out₀ at i out to → Ran out₀ out at (n - from) to (slice (32 * from) (32 * n) (flat 1 t))
run_end {t} {n} {i = i} {out} {to} le past small r =
    let z : to + (n - i) ≡ to = omega arith in
    let none : slice (32 * i) (32 * n) (flat 1 t) ≡ [] =
    drop_of_length-le (take (32 * n) (flat 1 t)) {i = 32 * i} (omega (arith, length-take-le (32 * n) (flat 1 t) (omega (arith, flat_length 1 t)))) in
    record { next = sym (ap cap z ∙ cap_is to small) ∙ r.count; bytes = ap (sets out (32 * to)) (sym none) ∙ r.same }
