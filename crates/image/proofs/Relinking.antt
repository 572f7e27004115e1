-- The backward pass over a flat tree. `table` and `links` are what the pass has made of the records from number i on: the table, and their bytes.
--     relinked        of a whole tree it makes the image
--     Back, turned    the invariant of its loop, and what one turn does, on the bytes and on the table
--     bytes_of_lem        a 32-bit number is made of its four bytes
-- Assumes nothing.
use mathlib.Core.Path.{◌≡◌, refl, sym, ap, subst, ◌∙◌}
use mathlib.Core.Logic.{⊎_elim}
use mathlib.Core.List.{List, [], ◌∷◌, ◌++◌, append_assoc, append-nil}
use Prim.Native.Nat.{ℕ, zero, suc, ◌+◌, ◌-◌, ◌*◌, ◌/◌, ◌%◌, ◌≤◌, ◌<◌}
use native.Mathlib.Omega.{arith}
use native.Mathlib.Nat.{add-suc, suc-add, add_assoc, zero-add, eq-or-lt_of_le, le_refl, div-div-eq-div-mul, div-add-mod', mod-eq_of_lt}
use native.Mathlib.Numerals.{add-one}
use lib.ListN.{length, get_or, take, drop, set, replicate, length-append, length-set, length-replicate, drop_of_length-le}
use lib.Dec.{lit<}
use lib.Seq.{sets, take_all, length-take-le, get_or-set_same, get_or-set_other, get_or-append-add, take-suc, drop-cons}
use Rattle.image.specs.Limits.{max_below, max_depth}
use Rattle.image.specs.Word.{word, le}
use Rattle.image.specs.Tree.{Label, Forest, none, node, Tree, size, link, Deep}
use Rattle.image.specs.Flat.{size_t, bytes_of, flat_any, flat, enc_any, enc}
use Rattle.image.specs.Records.{Rec, recs_any, recs, flats}
use Rattle.image.proofs.Writing.{bytes_of_length}

-- the table has a place for each depth, for none and for one below the deepest
abbrev pub places : ℕ
places = max_depth + 2

-- the table after the pass over records, the first with the number i
abbrev pub table : ℕ → List Rec → List ℕ
table i [] = replicate places 0
table i (x ∷ xs) = set (set (table (i + 1) xs) x.1 i) (x.1 + 1) 0

-- the bytes after the pass over records, the first with the number i
abbrev pub links : ℕ → List Rec → List ℕ
links i [] = []
links i (x ∷ xs) = bytes_of x.0 (get_or (table (i + 1) xs) (x.1 + 1) 0) (get_or (table (i + 1) xs) x.1 0) ++ links (i + 1) xs

-- .. whatever stands in it
table_length : (i : ℕ) (xs : List Rec) → length (table i xs) ≡ places
table_length i [] = length-replicate {A = ℕ} places 0
table_length i (x ∷ xs) = simp length-set (table_length (i + 1) xs)

-- ---- the flat tree is its records

-- two lists of records are written one after the other
flats_append : (xs ys : List Rec) → flats (xs ++ ys) ≡ flats xs ++ flats ys
flats_append [] ys = refl
flats_append (x ∷ xs) ys = rw (flats_append xs ys, append_assoc)

-- the records of a forest, written flat, are the flat forest
flats_any : (d : ℕ) (f : Forest) → flats (recs_any d f) ≡ flat_any d f
flats_any d none = refl
flats_any d (node l cs ns) = rw (flats_append (recs_any (d + 1) cs) (recs_any d ns), flats_any (d + 1) cs, flats_any d ns)

-- the records of a tree, written flat, are the flat tree
pub flats_flat : (d : ℕ) (t : Tree) → flats (recs d t) ≡ flat d t
flats_flat d t = rw (flats_any (d + 1) t.below)

-- a forest of n records has n
pub recs_any_length : (d : ℕ) (f : Forest) → length (recs_any d f) ≡ size f
recs_any_length d none = refl
recs_any_length d (node l cs ns) = ap suc (length-append (recs_any (d + 1) cs) (recs_any d ns) ∙ rw (recs_any_length (d + 1) cs, recs_any_length d ns))

-- a tree of n records has n
pub recs_length : (d : ℕ) (t : Tree) → length (recs d t) ≡ size_t t
recs_length d t = ap suc (recs_any_length (d + 1) t.below)

-- a flat record has 32 bytes
pub flats_length : (xs : List Rec) → length (flats xs) ≡ 32 * length xs
flats_length [] = refl
flats_length (x ∷ xs) = simp (length-append, bytes_of_length) (omega (arith, flats_length xs))

-- ---- what the pass makes of a forest at depth d, before records whose table is 0 from d on

-- the table has v at d and 0 at greater depths, and what it had at less
record Mid (before after : List ℕ) (d v : ℕ) : Type 0 where
  here : get_or after d 0 ≡ v
  above : (e : ℕ) → d < e → get_or after e 0 ≡ 0
  under : (e : ℕ) → e < d → get_or after e 0 ≡ get_or before e 0

-- a record at depth d before its children and its siblings
mid_more : (T₀ T₁ T₂ : List ℕ) (d u v b : ℕ) → length T₂ ≡ places → d + 1 < places → Mid T₀ T₁ d u → Mid T₁ T₂ (d + 1) v
    → Mid T₀ (set (set T₂ d b) (d + 1) 0) d b
mid_more T₀ T₁ T₂ d u v b len small h k =
    let l : d + 1 < length (set T₂ d b) = simp length-set (omega arith) in
    let m : d < length T₂ = omega arith in
    record {
      here = get_or-set_other (set T₂ d b) (d + 1) d 0 0 (λ e. omega arith) ∙ get_or-set_same T₂ d b 0 m;
      above = λ e lt. ⊎_elim (λ q. rw (← q) (get_or-set_same (set T₂ d b) (d + 1) 0 0 l))
          (λ q. get_or-set_other (set T₂ d b) (d + 1) e 0 0 (λ r. omega arith) ∙ (get_or-set_other T₂ d e b 0 (λ r. omega arith) ∙ k.above e q))
          (eq-or-lt_of_le {n = d + 1} {m = e} (omega arith));
      under = λ e lt. get_or-set_other (set T₂ d b) (d + 1) e 0 0 (λ r. omega arith)
          ∙ (get_or-set_other T₂ d e b 0 (λ r. omega arith) ∙ (k.under e (omega arith) ∙ h.under e lt));
    }

-- a forest at depth d leaves the link to it at d
mid : (f : Forest) (d b k m : ℕ) (zs : List Rec) → Deep f k → d + k ≤ max_depth + 1 → m ≡ b + size f → ((e : ℕ) → d ≤ e → get_or (table m zs) e 0 ≡ 0)
    → Mid (table m zs) (table b (recs_any d f ++ zs)) d (link b f)
mid none d b k m zs deep small e z = let q : m ≡ b = omega arith in rw (← q)
    (record { here = z d (le_refl d); above = λ e lt. z e (omega arith); under = λ e lt. refl })
mid (node l cs ns) d b k m zs deep small e z =
    let h = mid ns d (b + 1 + size cs) k m zs deep.2 small (omega arith) z in
    let j = mid cs (d + 1) (b + 1) (k - 1) (b + 1 + size cs) (recs_any d ns ++ zs) deep.1 (omega arith) refl (λ e lt. h.above e (omega arith)) in
    rw (append_assoc (recs_any (d + 1) cs) (recs_any d ns) zs)
    (mid_more _ _ _ d _ _ b (table_length (b + 1) (recs_any (d + 1) cs ++ (recs_any d ns ++ zs))) (omega arith) h j)

-- the bytes of a forest at depth d are its image
links_any : (f : Forest) (d b k m : ℕ) (zs : List Rec) → Deep f k → d + k ≤ max_depth + 1 → m ≡ b + size f → ((e : ℕ) → d ≤ e → get_or (table m zs) e 0 ≡ 0)
    → links b (recs_any d f ++ zs) ≡ enc_any b f ++ links m zs
links_any none d b k m zs deep small e z = let q : m ≡ b = omega arith in rw q
links_any (node l cs ns) d b k m zs deep small e z =
    let h = mid ns d (b + 1 + size cs) k m zs deep.2 small (omega arith) z in
    let z' : (e : ℕ) → d + 1 ≤ e → get_or (table (b + 1 + size cs) (recs_any d ns ++ zs)) e 0 ≡ 0 = λ e lt. h.above e (omega arith) in
    let j = mid cs (d + 1) (b + 1) (k - 1) (b + 1 + size cs) (recs_any d ns ++ zs) deep.1 (omega arith) refl z' in
    let ihn = links_any ns d (b + 1 + size cs) k m zs deep.2 small (omega arith) z in
    let ihc = links_any cs (d + 1) (b + 1) (k - 1) (b + 1 + size cs) (recs_any d ns ++ zs) deep.1 (omega arith) refl z' in
    rw (append_assoc (recs_any (d + 1) cs) (recs_any d ns) zs, j.here, j.under d (omega arith), h.here, ihc, ihn) (simp append_assoc)

-- a table of zeros has 0 everywhere
zeros : (n e : ℕ) → ◌≡◌ {A = ℕ} (get_or (replicate n 0) e 0) 0
zeros zero e = refl
zeros (suc n) zero = refl
zeros (suc n) (suc e) = zeros n e

-- the bytes of a whole tree are its image
pub relinked : (t : Tree) → Deep t.below max_below → links 0 (recs 1 t) ≡ enc 0 t
relinked t deep =
    let f : Forest = t.below in
    let r : links 1 (recs_any 2 f ++ []) ≡ enc_any 1 f ++ [] = links_any f 2 1 max_below (1 + size f) [] deep (omega arith) refl (λ e h. zeros places e) in
    let q : Mid (table (1 + size f) []) (table 1 (recs_any 2 f ++ [])) 2 (link 1 f) = mid f 2 1 max_below (1 + size f) [] deep (omega arith) refl
    (λ e h. zeros places e) in
    rw (simp append-nil at q.here, simp append-nil at (q.under 1 (omega arith)), zeros places 1, simp append-nil at r)

-- ---- a turn

-- the table has a place for the depth of each record, and for the next
abbrev pub Shallow : List Rec → Type 0
Shallow [] = Unit {0}
Shallow (x ∷ xs) = (x.1 + 1 < places) × Shallow xs

-- two shallow lists, one after the other, are shallow
shallow_append : (xs ys : List Rec) → Shallow xs → Shallow ys → Shallow (xs ++ ys)
shallow_append [] ys h k = k
shallow_append (x ∷ xs) ys h k = (h.0, shallow_append xs ys h.1 k)

-- the records of a forest that is not too deep are shallow
shallow_any : (f : Forest) (d k : ℕ) → Deep f k → d + k ≤ max_depth + 1 → Shallow (recs_any d f)
shallow_any none d k deep small = tt
shallow_any (node l cs ns) d k deep small = (
  omega arith,
  shallow_append (recs_any (d + 1) cs) (recs_any d ns) (shallow_any cs (d + 1) (k - 1) deep.1 (omega arith))
      (shallow_any ns d k deep.2 small),
)

-- the records of a tree that is not too deep are shallow
pub shallow : (t : Tree) → Deep t.below max_below → Shallow (recs 1 t)
shallow t deep = (lit< tt, shallow_any t.below 2 max_below deep (omega arith))

-- the table has a place for the depth of one record of shallow ones
pub shallow_at : (xs : List Rec) (j : ℕ) (z : Rec) → Shallow xs → j < length xs → (get_or xs j z).1 + 1 < places
shallow_at [] j z h lt = absurd (omega arith)
shallow_at (x ∷ xs) zero z h lt = h.0
shallow_at (x ∷ xs) (suc j) z h lt = shallow_at xs j z h.1 (omega arith)

-- a store past the first of two lists is a store to the second
set_right : (xs ys : List ℕ) (n v : ℕ) → set (xs ++ ys) (length xs + n) v ≡ xs ++ set ys n v
set_right [] ys n v = rw zero-add
set_right (x ∷ xs) ys n v = rw suc-add (ap (λ (l : List ℕ). x ∷ l) (set_right xs ys n v))

-- a run of stores past the first of two lists is one to the second
sets_right : (xs ys : List ℕ) (n : ℕ) (vs : List ℕ) → sets (xs ++ ys) (length xs + n) vs ≡ xs ++ sets ys n vs
sets_right xs ys n [] = refl
sets_right xs ys n (v ∷ vs) = rw (set_right xs ys n v, ← add-suc (length xs) n) (sets_right xs (set ys n v) (suc n) vs)

-- a word past the first of two lists is one of the second
pub word_right : (xs ys : List ℕ) (n : ℕ) → word (xs ++ ys) (length xs + n) ≡ word ys n
unfolding word
word_right xs ys n = simp (add_assoc, get_or-append-add)

-- a number is put together from its four bytes, by the quotients that they come from
combine : (v r₀ q₁ r₁ q₂ r₂ q₃ : ℕ) → q₁ * 256 + r₀ ≡ v → q₂ * 256 + r₁ ≡ q₁ → q₃ * 256 + r₂ ≡ q₂ → r₀ + r₁ * 256 + r₂ * 65536 + q₃ * 16777216 ≡ v
combine v r₀ q₁ r₁ q₂ r₂ q₃ e f g = omega arith

-- a 32-bit number is made of its four bytes
pub bytes_of_lem : (v : ℕ) → v < 4294967296 → v % 256 + v / 256 % 256 * 256 + v / 65536 % 256 * 65536 + v / 16777216 % 256 * 16777216 ≡ v
bytes_of_lem v h =
    let a : v / 65536 ≡ v / 256 / 256 = sym (div-div-eq-div-mul v 256 256) in
    let b : v / 16777216 ≡ v / 256 / 256 / 256 = sym (div-div-eq-div-mul v 65536 256) ∙ ap (λ (q : ℕ). q / 256) a in
    let small : v / 16777216 < 256 = omega arith in
    rw (mod-eq_of_lt small, b, a)
    (combine v (v % 256) (v / 256) (v / 256 % 256) (v / 256 / 256) (v / 256 / 256 % 256) (v / 256 / 256 / 256)
    (div-add-mod' v 256) (div-add-mod' (v / 256) 256) (div-add-mod' (v / 256 / 256) 256))

-- the depth is read from a flat record
pub depth_of : (l : Label) (d : ℕ) (rest : List ℕ) → d < 4294967296 → word (bytes_of l d 0 ++ rest) 24 ≡ d
unfolding word bytes_of le
depth_of l d rest h = bytes_of_lem d h

-- links in the place of the depth
links_of : (l : Label) (d a b : ℕ) (rest : List ℕ) → sets (bytes_of l d 0 ++ rest) 24 (le a ++ le b) ≡ bytes_of l a b ++ rest
unfolding bytes_of le
links_of l d a b rest = refl

-- the loop's invariant: the records from i on are turned, those before it are flat, and the table is what the pass made
pub record Back (out tab : List ℕ) (i : ℕ) (xs : List Rec) (rest : List ℕ) : Type 0 where
  pub within : i ≤ length xs
  pub bytes : out ≡ flats (take i xs) ++ (links i (drop i xs) ++ rest)
  pub tabled : tab ≡ table i (drop i xs)

-- what a turn at record j needs, and that the invariant holds again after it
pub record Turned (out tab : List ℕ) (j : ℕ) (xs : List Rec) (rest : List ℕ) : Type 0 where
  pub room : 32 * (j + 1) ≤ length out
  pub small : word out (32 * j + 24) + 1 < length tab
  pub again : (out' tab' : List ℕ)
      → out' ≡ sets out (32 * j + 24) (le (get_or tab (word out (32 * j + 24) + 1) 0) ++ le (get_or tab (word out (32 * j + 24)) 0))
      → tab' ≡ set (set tab (word out (32 * j + 24)) j) (word out (32 * j + 24) + 1) 0
      → Back out' tab' j xs rest

-- a record's bytes are turned, in the middle of the rest
turned_bytes : (out A S : List ℕ) (l : Label) (d j : ℕ) → out ≡ A ++ (bytes_of l d 0 ++ S) → length A ≡ 32 * j → d < 4294967296
    → (word out (32 * j + 24) ≡ d) × ((a b : ℕ) → sets out (32 * j + 24) (le a ++ le b) ≡ A ++ (bytes_of l a b ++ S))
turned_bytes out A S l d j e len small =
    rw (e, ← len) (
      word_right A (bytes_of l d 0 ++ S) 24 ∙ depth_of l d S small,
      λ a b. sets_right A (bytes_of l d 0 ++ S) 24 (le a ++ le b)
          ∙ rw links_of,
    )

-- the record x, with the number j, is turned next: ys are those after it
module _ (out tab : List ℕ) (j : ℕ) (xs ys : List Rec) (x : Rec) (rest : List ℕ) (low : x.1 + 1 < places) (h : Back out tab (suc j) xs rest)
    (shorter : take (suc j) xs ≡ take j xs ++ (x ∷ [])) (longer : drop j xs ≡ x ∷ ys) (tail : drop (suc j) xs ≡ ys) where
  -- the output is cut before and after the record
  split : out ≡ flats (take j xs) ++ (bytes_of x.0 x.1 0 ++ (links (j + 1) ys ++ rest))
  split = h.bytes ∙ rw (shorter, tail, flats_append, ← add-one j) (simp (append_assoc, append-nil))

  -- the flat records before it are as long as they should be
  count : length (flats (take j xs)) ≡ 32 * j
  count = flats_length (take j xs) ∙ rw (length-take-le j xs (omega (arith, h.within)))

  -- what the turn needs and leaves
  turned_of : Turned out tab j xs rest
  turned_of =
      let k = turned_bytes out (flats (take j xs)) (links (j + 1) ys ++ rest) x.0 x.1 j split count (omega arith) in
      let t : tab ≡ table (j + 1) ys = h.tabled ∙ rw (tail, ← add-one j) in
      let l : length tab ≡ places = rw t (table_length (j + 1) ys) in
      record {
        room = rw split (simp (length-append, bytes_of_length) (omega (arith, count)));
        small = rw k.0 (omega arith);
        again = λ out' tab' e f. record
            { within = omega (arith, h.within); bytes = e ∙ rw (k.0, k.1, longer, t) (simp append_assoc); tabled = f ∙ rw (k.0, longer, t) };
      }

-- a turn at any record of shallow ones
pub turned : (out tab : List ℕ) (j : ℕ) (xs : List Rec) (rest : List ℕ) → Shallow xs → Back out tab (suc j) xs rest → Turned out tab j xs rest
turned out tab j xs rest low h =
    let z : Rec = (record { kind = 0; p = 0; q = 0; r = 0; lo = 0; hi = 0 }, 0) in
    turned_of out tab j xs (drop (suc j) xs) (get_or xs j z) rest (shallow_at xs j z low h.within) h (take-suc xs j z h.within)
    (drop-cons xs j z h.within) refl

-- ---- the whole loop

-- before the loop all records are flat, and the table is empty
pub back_start : (out : List ℕ) (n : ℕ) (t : Tree) (rest : List ℕ) → n ≡ size_t t → out ≡ flat 1 t ++ rest
    → Back out (replicate places 0) n (recs 1 t) rest
back_start out n t rest e f =
    let l : length (recs 1 t) ≡ n = recs_length 1 t ∙ sym e in
    let a : take n (recs 1 t) ≡ recs 1 t = take_all n (recs 1 t) (omega arith) in
    let b : drop n (recs 1 t) ≡ [] = drop_of_length-le (recs 1 t) {i = n} (omega arith) in
    record { within = omega arith; bytes = f ∙ rw (a, b, flats_flat 1 t); tabled = rw b }

-- the table keeps its length
pub back_long : {out tab : List ℕ} {i : ℕ} {xs : List Rec} {rest : List ℕ} → Back out tab i xs rest → length tab ≡ places
back_long {i = i} {xs = xs} h = rw h.tabled (table_length i (drop i xs))

-- in the loop there is a record to turn
pub back_turn : (t : Tree) {out tab : List ℕ} {i : ℕ} {rest : List ℕ} → (i ≡ 0 → ⊥) → Deep t.below max_below → Back out tab i (recs 1 t) rest
    → Turned out tab (i - 1) (recs 1 t) rest
back_turn t {out} {tab} {i} {rest} nz deep h =
    let e : i ≡ suc (i - 1) = omega arith in
    turned out tab (i - 1) (recs 1 t) rest (shallow t deep) (subst (λ (k : ℕ). Back out tab k (recs 1 t) rest) e h)

-- after the loop the output is the image
pub back_end : (t : Tree) {out tab : List ℕ} {i : ℕ} {rest : List ℕ} → i ≡ 0 → Deep t.below max_below → Back out tab i (recs 1 t) rest
    → out ≡ enc 0 t ++ rest
back_end t {out} {tab} {i} {rest} z deep h =
    let k : Back out tab 0 (recs 1 t) rest = subst (λ (n : ℕ). Back out tab n (recs 1 t) rest) z h in
    k.bytes ∙ ap (λ (l : List ℕ). l ++ rest) (relinked t deep)
