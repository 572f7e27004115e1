-- The depths of an image's records, read off its links.
--     each            what holds of the first record of each forest within one holds of each record
--     known           where the links of a record lead, and how deep that is
--     noted_here      a record whose number is passed has its depth
--     noted_next      the depths that a record's links give are stored
--     noted_all       all records have their depths
-- Assumes nothing.
use mathlib.Core.Path.{◌≡◌, refl, sym, ap, subst, ◌∙◌}
use mathlib.Core.Bool.{Bool, true, false}
use mathlib.Core.List.{List, ◌++◌, append_assoc, append-nil}
use Prim.Native.Nat.{ℕ, zero, suc, ◌+◌, ◌*◌, ◌≤◌, ◌<◌}
use native.Mathlib.Omega.{arith}
use lib.Dec.{eqb, leb}
use lib.ListN.{length, get_or, drop, set, length-set}
use lib.Seq.{drop_at, drop-drop, get_or-set_same, get_or-set_other}
use borrow.Author.Count.{below_more}
use borrow.Author.Tests.{eqb-true, eqb-false, leb-true, leb-false}
use Rattle.image.specs.Limits.{max_records}
use Rattle.image.specs.Word.{word}
use Rattle.image.specs.Tree.{Label, Forest, none, node, Tree, size, link, Stands, At}
use Rattle.image.specs.Flat.{size_t, bytes_of, flat_any, flat}
use Rattle.image.proofs.Standing.{word_drop}
use Rattle.image.proofs.Writing.{bytes_of_length, flat_any_length}
use Rattle.image.proofs.Relinking.{depth_of}
use Rattle.answers.specs.Splicing.{Levels}

-- ---- each record of a forest

-- b itself, below m, or from m on
parted : (Z : Type 0) (b m k : ℕ) → b ≤ k → (b ≡ k → Z) → (b + 1 ≤ k → k < m → Z) → (m ≤ k → Z) → Z
parted Z b m k le here below beside = go (eqb b k) (leb m k) refl refl
  where
    go : (x y : Bool) → eqb b k ≡ x → leb m k ≡ y → Z
    go true y e g = here (eqb-true b k e)
    go false true e g = beside (leb-true m k g)
    go false false e g = let apart : b ≡ k → ⊥ = eqb-false b k e in below (omega arith) (leb-false m k g)

-- what is known of a forest, at depth d from record b on, gives what is asked of its first record, and is known of the forests below and beside it
module _ (H : ℕ → ℕ → Forest → Type 0) (Q : ℕ → Type 0) (here : (l : Label) (cs ns : Forest) (d b : ℕ) → H d b (node l cs ns) → Q b)
    (below : (l : Label) (cs ns : Forest) (d b : ℕ) → H d b (node l cs ns) → H (d + 1) (b + 1) cs)
    (beside : (l : Label) (cs ns : Forest) (d b : ℕ) → H d b (node l cs ns) → H d (b + 1 + size cs) ns) where
  each : (f : Forest) (d b : ℕ) → H d b f → (k : ℕ) → b ≤ k → k < b + size f → Q k
  each none d b h k le lt = absurd (omega arith)
  each (node l cs ns) d b h k le lt =
      parted (Q k) b (b + 1 + size cs) k le
      (λ e. subst Q e (here l cs ns d b h))
      (λ low high. each cs (d + 1) (b + 1) (below l cs ns d b h) k low high)
      (λ low. each ns d (b + 1 + size cs) (beside l cs ns d b h) k low (omega arith))

-- ---- the image, s, and the tree that it stands for, written flat, x

-- the depth that record k has in the flat tree
abbrev pub depth : List ℕ → ℕ → ℕ
depth x k = word x (32 * k + 24)

-- the forest f stands in both from record b on, at depth d, among n records
record Both (s x : List ℕ) (n d b : ℕ) (f : Forest) : Type 0 where
  stands : Stands f (drop (32 * b) s) b
  rest : List ℕ
  flat : drop (32 * b) x ≡ flat_any d f ++ rest
  low : d ≤ b + 1
  within : b + size f ≤ n

-- a link leads nowhere, or to a record of the depth v
pub data Leads (x : List ℕ) (n to v : ℕ) : Type 0 where
  nowhere : to ≡ 0 → Leads x n to v
  there : to < n → v ≡ depth x to → Leads x n to v

-- what the code asks of record k: its depth is small, and its links lead to records whose depths it gives
pub record Known (s x : List ℕ) (n k : ℕ) : Type 0 where
  pub small : depth x k ≤ n
  pub first : Leads x n (word s (32 * k + 24)) (depth x k + 1)
  pub next : Leads x n (word s (32 * k + 28)) (depth x k)

module _ {s x : List ℕ} {n : ℕ} (few : n ≤ max_records) where
  -- the first record's depth
  depth_first : (l : Label) (cs ns : Forest) (d b : ℕ) → Both s x n d b (node l cs ns) → depth x b ≡ d
  depth_first l cs ns d b h =
      sym (word_drop x (32 * b) 24)
      ∙ rw (h.flat, append_assoc (bytes_of l d 0) (flat_any (d + 1) cs ++ flat_any d ns) h.rest)
      (depth_of l d ((flat_any (d + 1) cs ++ flat_any d ns) ++ h.rest) (omega (arith, h.low, h.within)))

  -- the bytes behind the first record
  behind : (l : Label) (cs ns : Forest) (d b : ℕ) (h : Both s x n d b (node l cs ns))
      → drop (32 * (b + 1)) x ≡ flat_any (d + 1) cs ++ (flat_any d ns ++ h.rest)
  behind l cs ns d b h =
      let e : 32 * (b + 1) ≡ 32 * b + 32 = omega arith in
      rw (e, ← drop-drop 32 (32 * b) x, h.flat, append_assoc (bytes_of l d 0) (flat_any (d + 1) cs ++ flat_any d ns) h.rest)
      (drop_at (bytes_of l d 0) ((flat_any (d + 1) cs ++ flat_any d ns) ++ h.rest) 32 (bytes_of_length l d 0)
      ∙ append_assoc (flat_any (d + 1) cs) (flat_any d ns) h.rest)

  both_below : (l : Label) (cs ns : Forest) (d b : ℕ) → Both s x n d b (node l cs ns) → Both s x n (d + 1) (b + 1) cs
  both_below l cs ns d b h =
      let e : 32 * b + 32 ≡ 32 * (b + 1) = omega arith in
      record {
        stands = rw (drop-drop, e) at h.stands.below;
        rest = flat_any d ns ++ h.rest;
        flat = behind l cs ns d b h;
        low = omega (arith, h.low);
        within = omega (arith, h.within);
      }

  both_beside : (l : Label) (cs ns : Forest) (d b : ℕ) → Both s x n d b (node l cs ns) → Both s x n d (b + 1 + size cs) ns
  both_beside l cs ns d b h =
      let e : 32 * b + 32 * suc (size cs) ≡ 32 * (b + 1 + size cs) = omega arith in
      let g : 32 * (b + 1 + size cs) ≡ 32 * (b + 1) + 32 * size cs = omega arith in
      record {
        stands = rw (drop-drop, e) at h.stands.after;
        rest = h.rest;
        flat = rw (g, ← drop-drop (32 * size cs) (32 * (b + 1)) x, behind l cs ns d b h)
            (drop_at (flat_any (d + 1) cs) (flat_any d ns ++ h.rest) (32 * size cs) (flat_any_length (d + 1) cs));
        low = omega (arith, h.low);
        within = omega (arith, h.within);
      }

  -- a link to a forest
  leads : (f : Forest) (d b to : ℕ) → to ≡ link b f → Both s x n d b f → Leads x n to d
  leads none d b to e h = nowhere e
  leads (node l cs ns) d b to e h = there (omega (arith, h.within)) (sym (ap (depth x) e ∙ depth_first l cs ns d b h))

  known_first : (l : Label) (cs ns : Forest) (d b : ℕ) → Both s x n d b (node l cs ns) → Known s x n b
  known_first l cs ns d b h =
      let e = depth_first l cs ns d b h in
      record {
        small = omega (arith, h.low, h.within);
        first = rw e (leads cs (d + 1) (b + 1) _ (sym (word_drop s (32 * b) 24) ∙ h.stands.head.first) (both_below l cs ns d b h));
        next = rw e (leads ns d (b + 1 + size cs) _ (sym (word_drop s (32 * b) 28) ∙ h.stands.next) (both_beside l cs ns d b h));
      }

-- the forest below the first record of a tree
both_of : {t : Tree} {s : List ℕ} {n : ℕ} → At t s 0 → n ≡ size_t t → Both s (flat 1 t) n 2 1 t.below
both_of {t} h e =
    record {
      stands = h.below;
      rest = _;
      flat = drop_at (bytes_of t.label 1 0) (flat_any 2 t.below) 32 (bytes_of_length t.label 1 0) ∙ sym (append-nil (flat_any 2 t.below));
      low = omega arith;
      within = omega arith;
    }

-- what is known of each record but the first
pub known : {t : Tree} {s : List ℕ} {n k : ℕ} → At t s 0 → n ≡ size_t t → n ≤ max_records → 0 < k → k < n → Known s (flat 1 t) n k
known {t} {s} {n} {k} h e few some lt =
    each (Both s (flat 1 t) n) (Known s (flat 1 t) n) (known_first few) (both_below few) (both_beside few) t.below 2 1 (both_of h e) k
    (omega arith) (omega arith)

-- ---- depths that are stored

-- record j has its depth in l, if it is one of n
abbrev pub Right : List ℕ → ℕ → List ℕ → ℕ → Type 0
Right x n l j = j < n → get_or l j 0 ≡ depth x j

-- l has the depths of record 1 and of all records that a record before i, but the first, leads to
pub record Noted (s x : List ℕ) (n : ℕ) (l : List ℕ) (i : ℕ) : Type 0 where
  pub start : Right x n l 1
  pub first : (k : ℕ) → k < i → 0 < k → 0 < word s (32 * k + 24) → Right x n l (word s (32 * k + 24))
  pub next : (k : ℕ) → k < i → 0 < k → 0 < word s (32 * k + 28) → Right x n l (word s (32 * k + 28))

-- the forest f stands from record b on, whose depth is known if its number is passed
record Reached (s x : List ℕ) (n : ℕ) (l : List ℕ) (i b : ℕ) (f : Forest) : Type 0 where
  stands : Stands f (drop (32 * b) s) b
  some : 0 < b
  start : 0 < size f → b ≤ i → Right x n l b

module _ {s x : List ℕ} {n : ℕ} {l : List ℕ} {i : ℕ} (h : Noted s x n l i) where
  -- a forest that a link leads to
  reached_by : (f : Forest) (b to : ℕ) → to ≡ link b f → (0 < to → Right x n l to) → 0 < size f → 0 < b → Right x n l b
  reached_by none b to e g some pos = absurd (omega arith)
  reached_by (node m cs ns) b to e g some pos = subst (Right x n l) e (g (omega arith))

  reached_below : (m : Label) (cs ns : Forest) (d b : ℕ) → Reached s x n l i b (node m cs ns) → Reached s x n l i (b + 1) cs
  reached_below m cs ns d b r =
      let e : 32 * b + 32 ≡ 32 * (b + 1) = omega arith in
      record {
        stands = rw (drop-drop, e) at r.stands.below;
        some = omega arith;
        start = λ some le.
            reached_by cs (b + 1) _ (sym (word_drop s (32 * b) 24) ∙ r.stands.head.first) (h.first b (omega arith) r.some) some (omega arith);
      }

  reached_beside : (m : Label) (cs ns : Forest) (d b : ℕ) → Reached s x n l i b (node m cs ns) → Reached s x n l i (b + 1 + size cs) ns
  reached_beside m cs ns d b r =
      let e : 32 * b + 32 * suc (size cs) ≡ 32 * (b + 1 + size cs) = omega arith in
      record {
        stands = rw (drop-drop, e) at r.stands.after;
        some = omega arith;
        start = λ some le.
            reached_by ns (b + 1 + size cs) _ (sym (word_drop s (32 * b) 28) ∙ r.stands.next) (h.next b (omega arith) r.some) some
            (omega arith);
      }

  -- a record whose number is passed has its depth
  reached : (f : Forest) → Stands f (drop 32 s) 1 → (k : ℕ) → 0 < k → k < 1 + size f → k ≤ i → Right x n l k
  reached f g k some lt =
      each (λ (d b : ℕ) (u : Forest). Reached s x n l i b u) (λ (j : ℕ). j ≤ i → Right x n l j)
      (λ m cs ns d b r le. r.start (omega arith) le) reached_below reached_beside f 2 1
      (record { stands = g; some = omega arith; start = λ u le. h.start }) k (omega arith) lt

-- the same of the records of a tree
pub noted_here : {t : Tree} {s l : List ℕ} {n i : ℕ} → At t s 0 → n ≡ size_t t → Noted s (flat 1 t) n l i → (k : ℕ) → 0 < k → k < n → k ≤ i
    → get_or l k 0 ≡ word (flat 1 t) (32 * k + 24)
noted_here {t} a e h k some lt le = reached h t.below a.below k some (omega arith) le lt

module _ {x : List ℕ} {n to v : ℕ} (g : Leads x n to v) where
  -- a link's record is stored
  right_here : (l : List ℕ) → to < length l → 0 < to → Right x n (set l to v) to
  right_here l long some lt = get_or-set_same l to v 0 long ∙ go g
    where
      go : Leads x n to v → v ≡ depth x to
      go (nowhere e) = absurd (omega arith)
      go (there lt e) = e

  -- and no other is spoilt
  right_still : (l : List ℕ) → to < length l → (j : ℕ) → 0 < j → Right x n l j → Right x n (set l to v) j
  right_still l long j some h = go (eqb to j) refl
    where
      go : (b : Bool) → eqb to j ≡ b → Right x n (set l to v) j
      go true e = let q : to ≡ j = eqb-true to j e in subst (Right x n (set l to v)) q (right_here l long (omega arith))
      go false e = let q : to ≡ j → ⊥ = eqb-false to j e in λ lt. get_or-set_other l to j v 0 (λ z. q (sym z)) ∙ h lt

  -- it is among the records
  pub leads_small : 0 < n → to < n
  leads_small some = go g
    where
      go : Leads x n to v → to < n
      go (nowhere e) = omega arith
      go (there lt e) = lt

-- before the loop
pub noted_start : {t : Tree} {s : List ℕ} {n : ℕ} (l : List ℕ) → At t s 0 → n ≡ size_t t → n ≤ max_records → 1 < length l
    → Noted s (flat 1 t) n (set l 1 2) 1
noted_start {t} {s} {n} l h e few long =
    record {
      start = λ lt. get_or-set_same l 1 2 0 long ∙ go t.below (both_of h e) lt e;
      first = λ k lt some. absurd (omega arith);
      next = λ k lt some. absurd (omega arith);
    }
  where
    go : (f : Forest) → Both s (flat 1 t) n 2 1 f → 1 < n → n ≡ suc (size f) → 2 ≡ depth (flat 1 t) 1
    go none b lt q = absurd (omega arith)
    go (node m cs ns) b lt q = sym (depth_first few m cs ns 2 1 b)

-- the links of record i are noted
pub noted_next : {s x l : List ℕ} {n i v w : ℕ} → Known s x n i → Noted s x n l i → 0 < i → i < n → n ≤ length l
    → w ≡ depth x i + 1 → v ≡ depth x i → Noted s x n (set (set l (word s (32 * i + 24)) w) (word s (32 * i + 28)) v) (i + 1)
noted_next {s} {x} {l} {n} {i} {v} {w} k h some lt long e q =
    record {
      start = still 1 (omega arith) h.start;
      first = below_more (λ (j : ℕ). 0 < j → 0 < word s (32 * j + 24) → Right x n out (word s (32 * j + 24))) i
          (λ j u pos to. still _ to (h.first j u pos to))
          (λ pos to. right_still b mid lb _ to (right_here a l la to));
      next = below_more (λ (j : ℕ). 0 < j → 0 < word s (32 * j + 28) → Right x n out (word s (32 * j + 28))) i
          (λ j u pos to. still _ to (h.next j u pos to))
          (λ pos to. right_here b mid lb to);
    }
  where
    mid : List ℕ
    mid = set l (word s (32 * i + 24)) w

    out : List ℕ
    out = set mid (word s (32 * i + 28)) v

    a : Leads x n (word s (32 * i + 24)) w
    a = rw e k.first

    b : Leads x n (word s (32 * i + 28)) v
    b = rw q k.next

    la : word s (32 * i + 24) < length l
    la = omega (arith, leads_small a (omega arith))

    lb : word s (32 * i + 28) < length mid
    lb = simp length-set (omega (arith, leads_small b (omega arith)))

    still : (j : ℕ) → 0 < j → Right x n l j → Right x n out j
    still j pos r = right_still b mid lb j pos (right_still a l la j pos r)

-- all records have their depths, once the first has its own
pub noted_all : {t : Tree} {s l : List ℕ} {n i : ℕ} → At t s 0 → n ≡ size_t t → 0 < length l → n ≤ i → Noted s (flat 1 t) n l i
    → Levels (set l 0 1) t
noted_all {t} {s} {l} {n} {i} h e long past k = record { each = go }
  where
    go : (j : ℕ) → j < size_t t → get_or (set l 0 1) j 0 ≡ word (flat 1 t) (32 * j + 24)
    go zero lt = get_or-set_same l 0 1 0 long ∙ sym (depth_of t.label 1 (flat_any 2 t.below) (omega arith))
    go (suc j) lt = get_or-set_other l 0 (suc j) 1 0 (λ q. omega arith) ∙ noted_here h e k (suc j) (omega arith) (omega arith) (omega arith)
