-- Which conjuncts a scan takes, and what its fields' records say of that.
--     supports_none, -some         a conjunct without columns, and one with columns
--     field_step, field_left       the first of the fields that are left, and its mark
--     marked_place                 a column is marked exactly if its field is: no field's name is repeated
--     scan_few, Passed, ..         of a scan that stands in an image: that its fields are few, and their set
-- Assumes nothing.
use mathlib.Core.Path.{◌≡◌, refl, sym, ap, ◌∙◌}
use mathlib.Core.Bool.{Bool, true, false, not, ◌||◌}
use mathlib.Core.List.{List, [], ◌∷◌, map}
use Prim.Native.Nat.{ℕ, zero, suc, ◌+◌, ◌≤◌, ◌<◌}
use native.Mathlib.Omega.{arith}
use lib.Dec.{eqb}
use lib.ListN.{length, take, drop}
use borrow.Author.Tests.{leb-true}
use Rattle.image.specs.Limits.{max_fields}
use Rattle.image.specs.Tree.{Label, Forest, none, node}
use Rattle.plan.specs.Columns.{on_cols}
use Rattle.plan.specs.Lists.{◌&◌, any}
use Rattle.plan.specs.Schema.{same, has, schema, nodup}
use Rattle.plan.specs.Syntax.{Name, Expr, Field, scan}
use Rattle.plan.specs.Trees.{each, field_label, nothing_below, bit_of}
use Rattle.plan.proofs.Lists.{and_l, and_r}
use Rattle.plan.proofs.Names.{apart, same_refl}
use Rattle.acceptance.specs.Names.{sound}
use Rattle.acceptance.proofs.NamesRule.{rule_sound, names_nodup}
use Rattle.rewrite.specs.PushDownFilter.{marked}
use Rattle.utils.specs.Masks.{name_at, Masks}
use Rattle.utils.proofs.Marking.{has_at}
use Rattle.push_down_base.specs.Arms.{Placed}
use Rattle.push_down_arms.specs.Scans.{supports}
use Rattle.push_down_base.proofs.Masking.{Marks, masks_start, masks_step, masks_end}

-- ---- one conjunct

module _ (t : Name → Bool) (e : Expr) where
  pub supports_none : {b : Bool} → b ≡ on_cols (λ x. false) e → b ≡ true → false ≡ supports t e
  unfolding ◌&◌
  supports_none h k = rw (← h, k)

  pub supports_some : {b v : Bool} → b ≡ on_cols (λ x. false) e → b ≡ false → v ≡ on_cols t e → v ≡ supports t e
  unfolding ◌&◌
  supports_some h k v = rw (← h, k) v

-- ---- the fields of a scan

abbrev pub names : List Field → List Name
names fs = map (λ (f : Field). f.name) fs

-- the field with this place is marked
abbrev pub exact_at : List Field → ℕ → Bool
exact_at [] i = false
exact_at (f ∷ fs) zero = f.exact
exact_at (f ∷ fs) (suc i) = exact_at fs i

bit : (b : Bool) → eqb (bit_of b) 1 ≡ b
bit true = refl
bit false = refl

-- the first field of those that are left, and the others
pub field_step : (fs : List Field) (i : ℕ) (ns : Forest) {l : Label} {cs f : Forest} → i < length fs
    → each field_label nothing_below (drop i fs) ns ≡ node l cs f
    → (eqb l.lo 1 ≡ exact_at fs i) × (each field_label nothing_below (drop (suc i) fs) ns ≡ f)
unfolding each
field_step [] i ns lt e = absurd (omega arith)
field_step (g ∷ fs) zero ns {l} {f = f} lt e =
    let h : field_label g ≡ l = cc in
    let k : each field_label nothing_below fs ns ≡ f = cc in
    (sym (ap (λ (m : Label). eqb m.lo 1) h) ∙ bit g.exact, k)
field_step (g ∷ fs) (suc i) ns lt e = field_step fs i ns (omega arith) e

-- there is one
pub field_left : (fs : List Field) (i : ℕ) (ns : Forest) → i < length fs → each field_label nothing_below (drop i fs) ns ≡ none → ⊥
unfolding each
field_left [] i ns lt e = omega arith
field_left (g ∷ fs) zero ns lt e = let z : ◌≡◌ {A = ℕ} 0 1 = cc in omega arith
field_left (g ∷ fs) (suc i) ns lt e = field_left fs i ns (omega arith) e

names_length : (fs : List Field) → length (names fs) ≡ length fs
names_length [] = refl
names_length (f ∷ fs) = ap suc (names_length fs)

-- no field of this name, none that is marked
none_marked : (fs : List Field) (x : Name) → has (names fs) x ≡ false → marked fs x ≡ false
unfolding any ◌&◌
none_marked [] x h = refl
none_marked (f ∷ fs) x h = go (same f.name x) h (none_marked fs x)
  where
    go : (b : Bool) → (b || has (names fs) x) ≡ false → (has (names fs) x ≡ false → marked fs x ≡ false) → (b & f.exact || marked fs x) ≡ false
    go true k n = cc
    go false k n = n k

not_back : (b : Bool) → not b ≡ true → b ≡ false
not_back true k = cc
not_back false k = refl

or_left : (b : Bool) → (b || false) ≡ false → b ≡ false
or_left true k = k
or_left false k = k

pub marked_place : (fs : List Field) (i : ℕ) → nodup (names fs) ≡ true → i < length fs → marked fs (name_at (names fs) i) ≡ exact_at fs i
unfolding any ◌&◌
marked_place [] i h lt = absurd (omega arith)
marked_place (f ∷ fs) zero h lt =
    rw (same_refl f.name, none_marked fs f.name (not_back _ (and_l _ _ h))) (or_nil f.exact)
  where
    or_nil : (b : Bool) → (b || false) ≡ b
    or_nil true = refl
    or_nil false = refl
marked_place (f ∷ fs) (suc i) h lt =
    let k = apart (f.name ∷ []) (names fs) h (name_at (names fs) i) (has_at (names fs) i (omega (arith, names_length fs))) in
    rw (or_left (same f.name (name_at (names fs) i)) k) (marked_place fs i (and_r (not (has (names fs) f.name)) _ h) (omega arith))

module _ {s : List ℕ} {x t : ℕ} {fs : List Field} {es : List Expr} (h : Placed s x (scan t fs es)) where
  pub scan_width : length (schema (scan t fs es)) ≡ length fs
  unfolding schema
  scan_width = names_length fs

  pub scan_few : length fs ≤ max_fields
  unfolding sound
  scan_few =
      let k : length (schema (scan t fs es)) ≤ max_fields = leb-true (length (schema (scan t fs es))) max_fields
      (and_r _ _ (rule_sound eqb (scan t fs es) h.rules)) in
      omega (arith, scan_width)

  -- the set of the first i of the fields that are marked
  pub record Passed (m i : ℕ) : Type 0 where
    pub masks : Masks m (take i (names fs)) (marked fs)

  pub passed_start : Passed 0 0
  passed_start = record { masks = masks_start (names fs) (marked fs) }

  pub passed_next : {m r : ℕ} (i : ℕ) {v : Bool} → Marks m r i v → i < length fs → v ≡ exact_at fs i → Passed m i → Passed r (i + 1)
  unfolding schema
  passed_next i {v} f lt e k = record {
    masks = masks_step i v (names fs) (marked fs) f (omega (arith, names_length fs))
        (e ∙ sym (marked_place fs i (names_nodup (names fs) (rule_sound eqb (scan t fs es) h.rules)) lt)) k.masks;
  }

  pub passed_end : {m : ℕ} (i : ℕ) → length fs ≤ i → Passed m i → Masks m (schema (scan t fs es)) (marked fs)
  unfolding schema
  passed_end i le k = masks_end i (names fs) (omega (arith, names_length fs)) k.masks
