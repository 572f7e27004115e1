-- A tree's image stands for the tree, and for no other: what is written reads back, and what reads as a tree is what is written for it.
-- THE LAWS
--     at_enc          a tree of 32-bit words is read back from its image
--     reads_back      and no other tree is
--     only            one tree only stands somewhere (of specs/Chains, by which `reads_back` goes)
--     image_of_lem        bytes at which a tree stands are its image
--     small_at        what stands in bytes is of 32-bit words
-- Assumes nothing.
use mathlib.Core.Path.{◌≡◌, refl, ap, subst, ◌∙◌}
use mathlib.Core.List.{List, [], ◌∷◌, ◌++◌, append_assoc, append-nil}
use Prim.Native.Nat.{ℕ, suc, ◌+◌, ◌*◌, ◌/◌, ◌%◌, ◌≤◌, ◌<◌}
use native.Mathlib.Omega.{arith}
use lib.ListN.{length, drop, length-append, length-drop}
use lib.Seq.{drop_at, drop-drop, get_or-drop}
use Rattle.image.specs.Word.{Bytes, word, le}
use Rattle.image.specs.Tree.{Label, Forest, none, node, Tree, size, link, label_at, Here, Stands, At, SmallT}
pub use Rattle.image.specs.Tree.{Fits32, Small}
use Rattle.image.specs.Flat.{size_t, bytes_of, enc_any, enc}
pub use Rattle.image.specs.Chains.{only}
use Rattle.image.proofs.Writing.{bytes_of_length}
use Rattle.image.proofs.Standing.{word_drop}
use Rattle.image.proofs.Relinking.{bytes_of_lem}

-- a link is no more than the first number
link_le : (m : ℕ) (f : Forest) → link m f ≤ m
link_le m none = omega arith
link_le m (node l cs ns) = omega arith

-- ---- a record is read back

-- its label
label_of : (l : Label) (a b : ℕ) (rest : List ℕ) → Fits32 l → label_at (bytes_of l a b ++ rest) ≡ l
unfolding word bytes_of le
label_of l a b rest h =
    rw (
      bytes_of_lem l.kind h.kind,
      bytes_of_lem l.p h.p,
      bytes_of_lem l.q h.q,
      bytes_of_lem l.r h.r,
      bytes_of_lem l.lo h.lo,
      bytes_of_lem l.hi h.hi,
    )

-- the link to its first child
first_of : (l : Label) (a b : ℕ) (rest : List ℕ) → a < 4294967296 → word (bytes_of l a b ++ rest) 24 ≡ a
unfolding word bytes_of le
first_of l a b rest h = bytes_of_lem a h

-- the link to its next sibling
next_of : (l : Label) (a b : ℕ) (rest : List ℕ) → b < 4294967296 → word (bytes_of l a b ++ rest) 28 ≡ b
unfolding word bytes_of le
next_of l a b rest h = bytes_of_lem b h

-- ---- a forest is read back

-- an image has 32 bytes for each record
pub enc_length : (b : ℕ) (f : Forest) → length (enc_any b f) ≡ 32 * size f
enc_length b none = refl
enc_length b (node l cs ns) =
    simp (length-append, bytes_of_length) (omega (arith, enc_length (b + 1) cs, enc_length (b + 1 + size cs) ns))

-- a record, the bytes xs of its children and the bytes ys of what follows
module _ (l : Label) (a n : ℕ) (cs : Forest) (xs ys : List ℕ) (b : ℕ) (h : Fits32 l)
    (e : a ≡ link (b + 1) cs) (small : a < 4294967296) (len : length xs ≡ 32 * size cs) where
  -- the record is there
  here_of : Here l cs (bytes_of l a n ++ (xs ++ ys)) b
  here_of =
      record {
        label = label_of l a n (xs ++ ys) h;
        first = first_of l a n (xs ++ ys) small ∙ e;
        room = simp (length-append, bytes_of_length) (omega arith);
      }

  -- its children follow it
  below_of : drop 32 (bytes_of l a n ++ (xs ++ ys)) ≡ xs ++ ys
  below_of = drop_at (bytes_of l a n) (xs ++ ys) 32 (bytes_of_length l a n)

  -- what follows comes after them
  after_of : drop (32 * suc (size cs)) (bytes_of l a n ++ (xs ++ ys)) ≡ ys
  after_of =
      rw (← append_assoc)
      (drop_at (bytes_of l a n ++ xs) ys (32 * suc (size cs)) (simp (length-append, bytes_of_length) (omega arith)))

-- a forest of 32-bit words stands in its image
pub stands_enc : (f : Forest) (b : ℕ) (rest : List ℕ) → Small f → b + size f < 4294967296 → Stands f (enc_any b f ++ rest) b
stands_enc none b rest h small = tt
stands_enc (node l cs ns) b rest h small =
    let a = link (b + 1) cs in
    let n = link (b + 1 + size cs) ns in
    let xs = enc_any (b + 1) cs in
    let ys = enc_any (b + 1 + size cs) ns ++ rest in
    let la : a < 4294967296 = omega (arith, link_le (b + 1) cs) in
    let ln : n < 4294967296 = omega (arith, link_le (b + 1 + size cs) ns) in
    let len : length xs ≡ 32 * size cs = enc_length (b + 1) cs in
    rw (
      append_assoc (bytes_of l a n) (xs ++ enc_any (b + 1 + size cs) ns) rest,
      append_assoc xs (enc_any (b + 1 + size cs) ns) rest,
    )
    (record {
      head = here_of l a n cs xs ys b h.0 refl la len;
      below = rw (below_of l a n cs xs ys b h.0 refl la len) (stands_enc cs (b + 1) ys h.1 (omega arith));
      next = next_of l a n (xs ++ ys) ln;
      after = rw (after_of l a n cs xs ys b h.0 refl la len) (stands_enc ns (b + 1 + size cs) rest h.2 (omega arith));
    })

-- ---- a tree is read back

-- What is written reads back as the same tree.
pub at_enc : (t : Tree) (b : ℕ) (rest : List ℕ) → SmallT t → b + size_t t < 4294967296 → At t (enc b t ++ rest) b
at_enc t b rest small few =
    let f : Forest = node t.label t.below none in
    let k : Stands f (enc_any b f ++ rest) b = stands_enc f b rest (small.0, small.1, tt) (omega arith) in
    let e : enc_any b f ≡ enc b t = simp append-nil in
    let j : Stands f (enc b t ++ rest) b = subst (λ (x : List ℕ). Stands f (x ++ rest) b) e k in
    record { head = j.head; below = j.below }

-- What is written reads back as no other tree.
pub reads_back : (t u : Tree) (b : ℕ) (rest : List ℕ) → SmallT t → b + size_t t < 4294967296 → At u (enc b t ++ rest) b → u ≡ t
reads_back t u b rest small few h = only h (at_enc t b rest small few)

-- ---- labels that are read are of words

-- a part of bytes is bytes
pub bytes_drop : (s : List ℕ) (a : ℕ) → Bytes s → Bytes (drop a s)
bytes_drop s a h i = rw get_or-drop (h (a + i))

-- four bytes make a word of 32 bits
pub word_small : (s : List ℕ) (i : ℕ) → Bytes s → word s i < 4294967296
unfolding word
word_small s i h = omega (arith, h i, h (i + 1), h (i + 2), h (i + 3))

-- a label that is read is of such words
label_small : (s : List ℕ) (l : Label) → Bytes s → label_at s ≡ l → Fits32 l
label_small s l h e =
    rw (← e)
    (record {
      kind = word_small s 0 h;
      p = word_small s 4 h;
      q = word_small s 8 h;
      r = word_small s 12 h;
      lo = word_small s 16 h;
      hi = word_small s 20 h;
    })

-- what stands in bytes is of such words
pub small_stands : (f : Forest) (s : List ℕ) (b : ℕ) → Bytes s → Stands f s b → Small f
small_stands none s b h k = tt
small_stands (node l cs ns) s b h k = (
  label_small s l h k.head.label,
  small_stands cs (drop 32 s) (b + 1) (bytes_drop s 32 h) k.below,
  small_stands ns (drop (32 * suc (size cs)) s) (b + 1 + size cs) (bytes_drop s (32 * suc (size cs)) h) k.after,
)

-- What stands in bytes is of 32-bit words.
pub small_at : {t : Tree} {s : List ℕ} {b : ℕ} → Bytes s → At t s b → SmallT t
small_at {t} {s} {b} h k =
    (label_small s t.label h k.head.label, small_stands t.below (drop 32 s) (b + 1) (bytes_drop s 32 h) k.below)

-- ---- what is read is what is written

-- the bytes of a word that was made of bytes
four_bytes : (a b c d : ℕ) → a < 256 → b < 256 → c < 256 → d < 256
    → le (a + b * 256 + c * 65536 + d * 16777216) ≡ a ∷ b ∷ c ∷ d ∷ []
unfolding le
four_bytes a b c d ha hb hc hd =
    let v = a + b * 256 + c * 65536 + d * 16777216 in
    let q₁ : v / 256 ≡ b + c * 256 + d * 65536 = omega arith in
    let q₂ : v / 65536 ≡ c + d * 256 = omega arith in
    let q₃ : v / 16777216 ≡ d = omega arith in
    let e₀ : v % 256 ≡ a = omega arith in
    let e₁ : (b + c * 256 + d * 65536) % 256 ≡ b = omega arith in
    let e₂ : (c + d * 256) % 256 ≡ c = omega arith in
    let e₃ : d % 256 ≡ d = omega arith in
    rw (q₁, q₂, q₃, e₀, e₁, e₂, e₃)

-- the first four bytes are those of the first word
four : (s : List ℕ) → Bytes s → 4 ≤ length s → s ≡ le (word s 0) ++ drop 4 s
unfolding word
four [] h l = absurd (omega arith)
four (a ∷ []) h l = absurd (omega arith)
four (a ∷ b ∷ []) h l = absurd (omega arith)
four (a ∷ b ∷ c ∷ []) h l = absurd (omega arith)
four (a ∷ b ∷ c ∷ d ∷ s) h l = rw (four_bytes a b c d (h 0) (h 1) (h 2) (h 3))

-- the word at k, and what comes after it
word_then : (s : List ℕ) (k m : ℕ) → k + 4 ≡ m → Bytes s → m ≤ length s → drop k s ≡ le (word s k) ++ drop m s
word_then s k m e h l =
    let z : k + 0 ≡ k = omega arith in
    let f : drop k s ≡ le (word (drop k s) 0) ++ drop 4 (drop k s) = four (drop k s) (bytes_drop s k h) (rw length-drop (omega arith)) in
    rw (word_drop s k 0, z, drop-drop 4 k s, e) at f

-- a record's bytes are those of its words
record_bytes : (s : List ℕ) → Bytes s → 32 ≤ length s → s ≡ bytes_of (label_at s) (word s 24) (word s 28) ++ drop 32 s
unfolding bytes_of
record_bytes s h l =
    let w₀ : s ≡ le (word s 0) ++ drop 4 s = four s h (omega arith) in
    let w₁ : drop 4 s ≡ le (word s 4) ++ drop 8 s = word_then s 4 8 refl h (omega arith) in
    let w₂ : drop 8 s ≡ le (word s 8) ++ drop 12 s = word_then s 8 12 refl h (omega arith) in
    let w₃ : drop 12 s ≡ le (word s 12) ++ drop 16 s = word_then s 12 16 refl h (omega arith) in
    let w₄ : drop 16 s ≡ le (word s 16) ++ drop 20 s = word_then s 16 20 refl h (omega arith) in
    let w₅ : drop 20 s ≡ le (word s 20) ++ drop 24 s = word_then s 20 24 refl h (omega arith) in
    let w₆ : drop 24 s ≡ le (word s 24) ++ drop 28 s = word_then s 24 28 refl h (omega arith) in
    let w₇ : drop 28 s ≡ le (word s 28) ++ drop 32 s = word_then s 28 32 refl h (omega arith) in
    simp append_assoc
    (w₀ ∙ ap (le (word s 0) ++◌)
    (w₁ ∙ ap (le (word s 4) ++◌)
    (w₂ ∙ ap (le (word s 8) ++◌)
    (w₃ ∙ ap (le (word s 12) ++◌)
    (w₄ ∙ ap (le (word s 16) ++◌)
    (w₅ ∙ ap (le (word s 20) ++◌)
    (w₆ ∙ ap (le (word s 24) ++◌) w₇)))))))

-- the bytes at which a forest stands are its image
pub stands_bytes : (f : Forest) (s : List ℕ) (b : ℕ) → Bytes s → 32 * size f ≤ length s → Stands f s b
    → s ≡ enc_any b f ++ drop (32 * size f) s
stands_bytes none s b h l k = refl
stands_bytes (node l cs ns) s b h long k =
    let m = 32 * suc (size cs) in
    let room : m ≤ length s = k.head.room in
    let t = drop m s in
    let e₀ : s ≡ bytes_of (label_at s) (word s 24) (word s 28) ++ drop 32 s = record_bytes s h (omega arith) in
    let e₁ : drop 32 s ≡ enc_any (b + 1) cs ++ drop (32 * size cs) (drop 32 s) =
    stands_bytes cs (drop 32 s) (b + 1) (bytes_drop s 32 h) (rw length-drop (omega arith)) k.below in
    let e₂ : t ≡ enc_any (b + 1 + size cs) ns ++ drop (32 * size ns) t =
    stands_bytes ns t (b + 1 + size cs) (bytes_drop s m h) (rw length-drop (omega arith)) k.after in
    let a : 32 + 32 * size cs ≡ m = omega arith in
    let c : m + 32 * size ns ≡ 32 * suc (size cs + size ns) = omega arith in
    let e₃ : t ≡ enc_any (b + 1 + size cs) ns ++ drop (32 * suc (size cs + size ns)) s = rw (drop-drop, c) at e₂ in
    let e₄ : drop 32 s ≡ enc_any (b + 1) cs ++ t = rw (drop-drop, a) at e₁ in
    let e₅ : s ≡ bytes_of l (link (b + 1) cs) (link (b + 1 + size cs) ns) ++ drop 32 s = rw (k.head.label, k.head.first, k.next) at e₀ in
    simp append_assoc (e₅ ∙ ap (bytes_of l (link (b + 1) cs) (link (b + 1 + size cs) ns) ++◌) (e₄ ∙ ap (enc_any (b + 1) cs ++◌) e₃))

-- Bytes at which a tree stands, with no sibling, are its image.
pub image_of_lem : (t : Tree) (s : List ℕ) (b : ℕ) → Bytes s → At t s b → word s 28 ≡ 0 → s ≡ enc b t ++ drop (32 * size_t t) s
image_of_lem t s b h k last =
    let f : Forest = node t.label t.below none in
    let j : Stands f s b = record { head = k.head; below = k.below; next = last; after = tt } in
    let e : 32 * size f ≡ 32 * size_t t = omega arith in
    let r : s ≡ enc_any b f ++ drop (32 * size f) s = stands_bytes f s b h (omega (arith, k.head.room)) j in
    simp append-nil at (rw e at r)
