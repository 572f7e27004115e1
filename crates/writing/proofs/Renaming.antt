-- Laws of renames written as an image.
--     Renames, ..         the invariant of the loop that writes them
--     written             the image is there
--     renames_map         it is a map: each name of the first schema for the one in its place in the second
-- Assumes nothing.
use mathlib.Core.Path.{◌≡◌, refl, sym, ap, subst, ◌∙◌}
use mathlib.Core.Bool.{Bool, true, false, cond}
use mathlib.Core.List.{List, [], ◌∷◌, ◌++◌, append_assoc, append-nil}
use Prim.Native.Nat.{ℕ, zero, suc, ◌+◌, ◌-◌, ◌*◌, ◌≤◌, ◌<◌}
use native.Mathlib.Nat.{zero-add, add-zero}
use native.Mathlib.Omega.{arith}
use borrow.Author.Count.{below_more}
use lib.ListN.{length, drop, length-append}
use lib.Seq.{sets, sets-eq, length-sets}
use Rattle.image.specs.Limits.{max_fields, record_bytes}
use Rattle.image.specs.Tree.{Label, Forest, none, node, size, link, At, Stands, Deep, Small}
use Rattle.image.specs.Flat.{bytes_of, enc_any}
use Rattle.image.specs.Subtrees.{Subtree}
use Rattle.image.proofs.Subtrees.{tree_is}
use Rattle.image.proofs.Writing.{sets_after, bytes_of_length}
use Rattle.image.proofs.RoundTrip.{enc_length, stands_enc}
use Rattle.plan.specs.Schema.{same}
use Rattle.plan.specs.Syntax.{Name, Expr, col}
use Rattle.plan.specs.Trees.{label_e, kids_e, expr_tree, each, entry_label, entry_kids}
use Rattle.rewrite.specs.PushDownFilter.{pick, ren}
use Rattle.utils.specs.Masks.{name_at}
use Rattle.utils.specs.Fields.{Fields, field_at, Names}
use Rattle.utils.proofs.Named.{names_at, names_count}
use Rattle.writing.specs.Maps.{MapsTo}
use Rattle.writing.specs.Renames.{SmallName, link_to, rename_bytes, renames_from, renames_tree}
use Rattle.writing.proofs.Maps.{entries_map, maps_to}

-- ---- one rename

-- the forest of the renames from place i on, k of them
abbrev pub renames : Fields → Fields → ℕ → ℕ → Forest
renames f g i k = each entry_label entry_kids (renames_from f g i k) none

-- both names of place i are of words
abbrev SmallPair : Fields → Fields → ℕ → Type 0
SmallPair f g i = SmallName (field_at f i) × SmallName (field_at g i)

-- there is a link exactly where there are any
pub link_one : (b k : ℕ) → (k ≡ 0 → ⊥) → b ≡ link_to b k
link_one b zero nz = absurd (nz refl)
link_one b (suc k) nz = refl

pub link_none : (b k : ℕ) → k ≡ 0 → 0 ≡ link_to b k
link_none b k z = rw z

rename_link : (f g : Fields) (b i k : ℕ) → link b (renames f g i k) ≡ link_to b k
unfolding each
rename_link f g b i zero = refl
rename_link f g b i (suc k) = refl

renames_size : (f g : Fields) (i k : ℕ) → size (renames f g i k) ≡ 2 * k
unfolding each kids_e
renames_size f g i zero = refl
renames_size f g i (suc k) = omega (arith, renames_size f g (i + 1) k)

renames_small : (f g : Fields) (i k : ℕ) → ((j : ℕ) → j < i + k → SmallPair f g j) → Small (renames f g i k)
unfolding each label_e kids_e
renames_small f g i zero h = tt
renames_small f g i (suc k) h =
    let s = h i (omega arith) in (
      record { kind = omega arith; p = s.0.q; q = s.0.n; r = omega arith; lo = omega arith; hi = omega arith },
      (record { kind = omega arith; p = s.1.q; q = s.1.n; r = omega arith; lo = omega arith; hi = omega arith }, tt, tt),
      renames_small f g (i + 1) k (λ j lt. h j (omega arith)),
    )

pub renames_deep : (f g : Fields) (i k : ℕ) → Deep (renames f g i k) 2
unfolding each kids_e
renames_deep f g i zero = tt
renames_deep f g i (suc k) = (omega arith, (omega arith, tt, tt), renames_deep f g (i + 1) k)

-- the bytes of a rename
bytes_length : (x y : Name) (a b : ℕ) → length (rename_bytes x y a b) ≡ 2 * record_bytes
bytes_length x y a b = simp (length-append, bytes_of_length)

pub two_records : (m : List ℕ) (at : ℕ) (l k : Label) (a b c d : ℕ)
    → sets (sets m (32 * at) (bytes_of l a b)) (32 * (at + 1)) (bytes_of k c d) ≡ sets m (32 * at) (bytes_of l a b ++ bytes_of k c d)
two_records m at l k a b c d =
    sym (sets_after m (32 * at) (bytes_of l a b) (bytes_of k c d) (32 * (at + 1)) (omega (arith, bytes_of_length l a b)))

-- the image of a rename and of those after it
rename_enc : (f g : Fields) (b i k : ℕ)
    → enc_any b (renames f g i (suc k)) ≡ rename_bytes (field_at f i) (field_at g i) (b + 1) (link_to (b + 2) k) ++ enc_any (b + 2) (renames f g (i + 1) k)
unfolding each label_e kids_e
rename_enc f g b i k =
    let e : b + 1 + 1 ≡ b + 2 = omega arith in
    rw (e, rename_link f g (b + 2) (i + 1) k) (simp (append_assoc, append-nil))

-- ---- the loop

-- what is left of the renames completes the image
pub record Renames (f g : Fields) (n : ℕ) (m₀ m : List ℕ) (i : ℕ) : Type 0 where
  pub within : i ≤ n
  pub same : sets m (32 * (2 * i + 1)) (enc_any (2 * i + 1) (renames f g i (n - i))) ≡ sets m₀ 32 (enc_any 1 (renames f g 0 n))
  pub long : length m ≡ length m₀
  pub small : (j : ℕ) → j < i → SmallPair f g j

pub renames_start : (f g : Fields) (n : ℕ) (m : List ℕ) → Renames f g n m m 0
renames_start f g n m =
    let z : n - 0 ≡ n = omega arith in
    record { within = omega arith; same = rw z; long = refl; small = λ j lt. absurd (omega arith) }

pub renames_next : (f g : Fields) (n : ℕ) (m₀ m m' : List ℕ) (i r : ℕ) → Renames f g n m₀ m i → i < n → r ≡ link_to (2 * i + 3) (n - i - 1)
    → m' ≡ sets m (32 * (2 * i + 1)) (rename_bytes (field_at f i) (field_at g i) (2 * i + 1 + 1) r) → SmallPair f g i → Renames f g n m₀ m' (i + 1)
renames_next f g n m₀ m m' i r h lt link_is e s =
    let k : ℕ = n - i - 1 in
    let b : ℕ = 2 * i + 1 in
    let bytes : List ℕ = rename_bytes (field_at f i) (field_at g i) (b + 1) (link_to (b + 2) k) in
    let rest : List ℕ = enc_any (b + 2) (renames f g (i + 1) k) in
    let a : n - i ≡ suc k = omega arith in
    let c : n - (i + 1) ≡ k = omega arith in
    let d : 2 * (i + 1) + 1 ≡ b + 2 = omega arith in
    let d' : 2 * i + 3 ≡ b + 2 = omega arith in
    let l : 32 * b + length bytes ≡ 32 * (b + 2) = omega (arith, bytes_length (field_at f i) (field_at g i) (b + 1) (link_to (b + 2) k)) in
    let all : sets m (32 * b) (enc_any b (renames f g i (suc k))) ≡ sets m₀ 32 (enc_any 1 (renames f g 0 n)) = rw a at h.same in
    let e' : m' ≡ sets m (32 * b) bytes = rw (link_is, d') at e in
    record {
      within = omega arith;
      same = rw (c, d, e') (sym (sets_after m (32 * b) bytes rest (32 * (b + 2)) l) ∙ (ap (sets m (32 * b)) (sym (rename_enc f g b i k)) ∙ all));
      long = rw (e', length-sets) h.long;
      small = below_more (SmallPair f g) i h.small s;
    }

pub renames_end : {f g : Fields} {n : ℕ} {m₀ m : List ℕ} {i : ℕ} → Renames f g n m₀ m i → n ≤ i → m ≡ sets m₀ 32 (enc_any 1 (renames f g 0 n))
unfolding each
renames_end {n = n} {i = i} h le = let z : n - i ≡ 0 = omega arith in rw z at h.same

-- the image is there
pub written : (f g : Fields) (n : ℕ) (m m₀ m' : List ℕ) (r : ℕ) → n ≤ max_fields → 32 * (1 + 2 * n) ≤ length m
    → r ≡ link_to 1 n → m₀ ≡ sets m 0 (bytes_of (renames_tree f g n).label r 0)
    → m' ≡ sets m₀ 32 (enc_any 1 (renames f g 0 n)) → ((j : ℕ) → j < n → SmallPair f g j) → At (renames_tree f g n) m' 0
written f g n m m₀ m' r le long first e h small =
    let l : Label = (renames_tree f g n).label in
    let es : Forest = renames f g 0 n in
    let top : Forest = node l es none in
    let count : size es ≡ 2 * n = renames_size f g 0 n in
    let head : List ℕ = bytes_of l (link_to 1 n) 0 in
    let bytes : List ℕ = head ++ enc_any 1 es in
    let size_is : length bytes ≡ 32 * (1 + 2 * n) = simp (length-append, bytes_of_length) (omega (arith, enc_length 1 es)) in
    let rest : List ℕ = drop (0 + length bytes) m in
    let e' : m₀ ≡ sets m 0 head = rw first at e in
    let is : m' ≡ bytes ++ rest =
    h ∙ (rw (e', ← sets_after m 0 head (enc_any 1 es) 32 (zero-add (length head) ∙ bytes_of_length l (link_to 1 n) 0))
    (sets-eq bytes m 0 (omega arith))) in
    let s : Stands top (enc_any 0 top ++ rest) 0 =
    stands_enc top 0 rest (
      record { kind = omega arith; p = omega arith; q = omega arith; r = omega arith; lo = omega arith; hi = omega arith },
      renames_small f g 0 n (λ j lt. small j (omega arith)),
      tt,
    ) (omega arith) in
    let same : enc_any 0 top ≡ bytes = rw (rename_link f g 1 0 n) (simp append-nil) in
    let all : enc_any 0 top ++ rest ≡ m' = ap (λ (b : List ℕ). b ++ rest) same ∙ sym is in
    let k : Stands top m' 0 = subst (λ (b : List ℕ). Stands top b 0) all s in
    record { head = k.head; below = k.below }

-- ---- the map

pick_one : (b : Bool) (y z : Name) → cond b (col y) (col z) ≡ col (cond b y z)
pick_one true y z = refl
pick_one false y z = refl

pick_next : {y y' z z' r : Name} {e : Expr} (x : Name) → y' ≡ y → z' ≡ z → e ≡ col r → cond (same y' x) (col z') e ≡ col (cond (same y x) z r)
pick_next {y} {z = z} {r = r} x a b h = rw (a, b, h) (pick_one (same y x) z r)

-- a name of the first schema gives way to the one in its place in the second
pick_ren : (s t : List Name) (f g : Fields) (i : ℕ) (x : Name) → length s ≡ length t
    → ((j : ℕ) → j < length s → field_at f (i + j) ≡ name_at s j) → ((j : ℕ) → j < length t → field_at g (i + j) ≡ name_at t j)
    → pick (renames_from f g i (length s)) x ≡ col (ren s t x)
unfolding pick ren
pick_ren [] t f g i x e h k = refl
pick_ren (y ∷ s) [] f g i x e h k = absurd (omega arith)
pick_ren (y ∷ s) (z ∷ t) f g i x e h k =
    let hi : field_at f i ≡ y = rw add-zero at (h 0 (omega arith)) in
    let ki : field_at g i ≡ z = rw add-zero at (k 0 (omega arith)) in
    let q : (j : ℕ) → i + 1 + j ≡ i + suc j = λ j. omega arith in
    let rest : pick (renames_from f g (i + 1) (length s)) x ≡ col (ren s t x) =
    pick_ren s t f g (i + 1) x (omega arith) (λ j lt. rw (q j) (h (suc j) (omega arith))) (λ j lt. rw (q j) (k (suc j) (omega arith))) in
    pick_next x hi ki rest

-- the renames are a map
pub renames_map : {f g : Fields} {m : List ℕ} → At (renames_tree f g f.len) m 0 → f.len ≤ max_fields → (s t : List Name) → Names f s → Names g t
    → length s ≡ length t → (map : Subtree) → map.image.now ≡ m → map.number ≡ 0 → MapsTo map (λ x. col (ren s t x))
renames_map {f} {g} {m} h le s t a b e map i z =
    let n : length s ≡ f.len = names_count a le in
    let fs : (j : ℕ) → j < length s → field_at f (0 + j) ≡ name_at s j = λ j lt. rw zero-add (names_at a j (omega arith) lt) in
    let gs : (j : ℕ) → j < length t → field_at g (0 + j) ≡ name_at t j = λ j lt. rw zero-add (names_at b j (omega arith) lt) in
    maps_to map (tree_is map (renames_tree f g f.len) i z h)
    (λ x. entries_map (renames_from f g 0 f.len) none x tt
    ∙ ap expr_tree (ap (λ (k : ℕ). pick (renames_from f g 0 k) x) (sym n) ∙ pick_ren s t f g 0 x e fs gs))
