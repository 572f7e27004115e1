-- A set that a loop over fields makes, place by place.
use mathlib.Core.Path.{◌≡◌, refl, sym, ap, ◌∙◌}
use mathlib.Core.Bool.{Bool}
use mathlib.Core.List.{List, [], ◌∷◌, ◌++◌, map}
use Prim.Native.Nat.{ℕ, ◌+◌, ◌≤◌, ◌<◌}
use native.Mathlib.Omega.{arith}
use native.Mathlib.Numerals.{add-one}
use lib.ListN.{length, take, get_or, get_or-map, length-map}
use lib.Seq.{take-suc, take_all, length-take-le}
use Rattle.image.specs.Limits.{max_fields}
use Rattle.conjuncts.specs.Items.{listed}
use Rattle.plan.specs.Syntax.{Name, nm}
use Rattle.utils.specs.declared.schema_columns.ColumnReference.{ColumnReference}
use Rattle.utils.specs.Fields.{Fields, Names, coded, named}
use Rattle.utils.proofs.Named.{names_listed}
use Rattle.utils.specs.Masks.{name_at, Masks}
use Rattle.utils.proofs.Marking.{masks_none, masks_same}

-- what `mark` does
abbrev pub Marks : ℕ → ℕ → ℕ → Bool → Type 0
Marks m r k v = (ms : List Name) (d : Name → Bool) (y : Name) → k ≡ length ms → v ≡ d y → Masks m ms d → Masks r (ms ++ (y ∷ [])) d

pub one_more : (ns : List Name) (i : ℕ) → i < length ns → take (i + 1) ns ≡ take i ns ++ (name_at ns i ∷ [])
one_more ns i lt = rw (add-one) (take-suc ns i (nm 0 0) lt)

pub masks_start : (ns : List Name) (c : Name → Bool) → Masks 0 (take 0 ns) c
masks_start ns c = masks_same (λ i lt. absurd (omega arith)) (masks_none [])

pub masks_step : {m r : ℕ} (i : ℕ) (v : Bool) (ns : List Name) (c : Name → Bool) → Marks m r i v → i < length ns → v ≡ c (name_at ns i)
    → Masks m (take i ns) c → Masks r (take (i + 1) ns) c
masks_step i v ns c f lt e h = rw (one_more ns i lt) (f (take i ns) c (name_at ns i) (sym (length-take-le i ns (omega arith))) e h)

pub masks_end : {m : ℕ} (i : ℕ) (ns : List Name) {c : Name → Bool} → length ns ≤ i → Masks m (take i ns) c → Masks m ns c
masks_end i ns le h = rw (take_all i ns le) at h

-- ---- a walk along the fields of a schema

module _ {f : Fields} {ns : List Name} (h : Names f ns) (few : f.len ≤ max_fields) {items : List ColumnReference} (is : items ≡ listed f) where
  are : items ≡ map coded ns
  are = is ∙ names_listed h few

  all_met : length items ≡ length ns
  all_met = ap length are ∙ length-map ns coded

  -- one that is met
  pub field_in : {i : ℕ} → i < length items → i < length ns
  field_in lt = omega (arith, all_met)

  -- .. has this name
  pub field_met : (i : ℕ) → named (get_or items i (coded (nm 0 0))) ≡ name_at ns i
  field_met i = ap (λ xs. named (get_or xs i (coded (nm 0 0)))) are ∙ ap named (get_or-map coded ns i (nm 0 0)) ∙ back (name_at ns i)
    where
      back : (x : Name) → named (coded x) ≡ x
      back (nm q n) = refl

  -- none is left
  pub fields_past : {i : ℕ} → length items ≤ i → length ns ≤ i
  fields_past le = omega (arith, all_met)
