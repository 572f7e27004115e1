-- Laws of lines: how long one is, and the lines of a tree that is written flat.
use Prim.Native.Nat.{ℕ, zero, suc, ◌+◌, ◌*◌, ◌≤◌, ◌<◌}
use native.Mathlib.Omega.{arith}
use native.Mathlib.Nat.{zero-add}
use native.Mathlib.Numerals.{add-one}
use mathlib.Core.Path.{◌≡◌, ap, ◌∙◌}
use mathlib.Core.List.{List, ◌++◌, append_assoc, append-nil}
use lib.ListN.{length, drop, length-append}
use lib.Seq.{drop_at, drop-drop}
use Rattle.image.specs.Limits.{max_records}
use Rattle.image.specs.Lowest.{alone}
use Rattle.image.specs.Word.{word, le}
use Rattle.image.specs.Tree.{Label, Forest, none, node, Tree, size, label_at, Fits32, Small, SmallT}
use Rattle.image.specs.Flat.{size_t, bytes_of, flat_any, flat}
use Rattle.image.proofs.Writing.{bytes_of_length}
use Rattle.image.proofs.Relinking.{depth_of}
use Rattle.image.proofs.RoundTrip.{stands_enc}
use Rattle.text.specs.Lines.{decimal, spaced, newline, line, lines}
use Rattle.text.specs.declared.numbers.Text.{Text}
use Rattle.text.specs.Written.{Puts, flat_lines}
use Rattle.text.proofs.Appending.{put_both, put_nothing}
use Rattle.text.proofs.Decimals.{word_digits, spaced_word}

-- a line is a depth, then twice three words
pub line_words : (d : ℕ) (l : Label) → line d l
    ≡ decimal d ++ ((spaced l.kind ++ (spaced l.p ++ spaced l.q)) ++ ((spaced l.r ++ (spaced l.lo ++ spaced l.hi)) ++ newline))
unfolding line
line_words d l = simp append_assoc

-- a line has at most 77 bytes
pub line_length : (d : ℕ) (l : Label) → d < 4294967296 → Fits32 l → length (line d l) ≤ 77
unfolding line
line_length d l h f =
    simp length-append (omega (
      arith,
      word_digits h,
      spaced_word f.kind,
      spaced_word f.p,
      spaced_word f.q,
      spaced_word f.r,
      spaced_word f.lo,
      spaced_word f.hi,
    ))

-- ---- lines one by one

-- one more record
pub next_line : (i : ℕ) (s : List ℕ)
    → flat_lines (suc i) s ≡ flat_lines i s ++ line (word (drop (32 * i) s) 24) (label_at (drop (32 * i) s))
unfolding flat_lines
next_line zero s = append-nil (line (word s 24) (label_at s))
next_line (suc i) s =
    let e : 32 * suc i ≡ 32 + 32 * i = omega arith in
    rw (e, ← drop-drop (32 * i) 32 s, append_assoc) (ap (λ (l : List ℕ). line (word s 24) (label_at s) ++ l) (next_line i (drop 32 s)))

-- the records before i are written
pub record Listed (s : List ℕ) (before text : Text) (i : ℕ) : Type 0 where
  pub lines : Puts before text (flat_lines i s)
  pub short : text.at ≤ before.at + 77 * i

pub listed_none : (s : List ℕ) (text : Text) → Listed s text text 0
unfolding flat_lines
listed_none s text = record { lines = put_nothing text; short = omega arith }

pub listed_next : (s : List ℕ) (i : ℕ) {before text text' : Text} {part : List ℕ} {d : ℕ} {l : Label} → part ≡ drop (32 * i) s → d ≡ word part 24
    → l ≡ label_at part → d < 4294967296 → Fits32 l → Listed s before text i → Puts text text' (line d l) → Listed s before text' (i + 1)
listed_next s i {part = part} {d = d} {l} at depth label small fits k w =
    record {
      lines = rw (add-one i, next_line i s, ← at, ← depth, ← label) (put_both k.lines w);
      short = omega (arith, k.short, w.written.end, line_length d l small fits);
    }

-- ---- the lines of a tree that is written flat

-- the label is read from a flat record
label_of : (l : Label) (d : ℕ) (rest : List ℕ) → Fits32 l → label_at (bytes_of l d 0 ++ rest) ≡ l
unfolding word bytes_of le
label_of l d rest h = (stands_enc (node l none none) 0 rest (h, tt, tt) (omega arith)).head.label

-- those of a forest in front of others
lines_any : (f : Forest) (d k : ℕ) (rest : List ℕ) → Small f → d + size f < 4294967296
    → flat_lines (size f + k) (flat_any d f ++ rest) ≡ lines d f ++ flat_lines k rest
unfolding lines flat_lines
lines_any none d k rest h few = rw zero-add
lines_any (node l cs ns) d k rest h few =
    let xs : List ℕ = flat_any (d + 1) cs in
    let ys : List ℕ = flat_any d ns in
    let b : List ℕ = bytes_of l d 0 in
    let e : size (node l cs ns) + k ≡ suc (size cs + (size ns + k)) = omega arith in
    let g : (b ++ (xs ++ ys)) ++ rest ≡ b ++ (xs ++ (ys ++ rest)) = simp append_assoc in
    rw (
      e,
      g,
      depth_of l d (xs ++ (ys ++ rest)) (omega arith),
      label_of l d (xs ++ (ys ++ rest)) h.0,
      drop_at b (xs ++ (ys ++ rest)) 32 (bytes_of_length l d 0),
      lines_any cs (d + 1) (size ns + k) (ys ++ rest) h.1 (omega arith),
      lines_any ns d k rest h.2 (omega arith),
    )
    (simp append_assoc)

pub lines_tree : (t : Tree) (rest : List ℕ) {n : ℕ} {s : List ℕ} → SmallT t → size_t t ≤ max_records → n ≡ size_t t → s ≡ flat 1 t ++ rest
    → flat_lines n s ≡ lines 1 (alone t)
unfolding flat_lines
lines_tree t rest {n} {s} h few count bytes =
    let e : n ≡ size (alone t) + 0 = omega arith in
    let g : s ≡ flat_any 1 (alone t) ++ rest = bytes ∙ simp append-nil in
    rw (e, g) (lines_any (alone t) 1 0 rest (h.0, h.1, tt) (omega arith) ∙ append-nil (lines 1 (alone t)))
