-- Laws of the names that the code's list holds.
--     names_count, names_fit, names_at   how many there are, and which
--     names_none, names_more             none, and one more
--     place_is, place_found, place_has   the place of a name
-- Assumes nothing.
use mathlib.Core.Path.{◌≡◌, refl, sym, ap, ◌∙◌}
use mathlib.Core.Bool.{Bool, true, false, not, ◌&&◌, ◌||◌, cond}
use mathlib.Core.List.{List, [], ◌∷◌, ◌++◌, map, map-append}
use Prim.Native.Nat.{ℕ, suc, ◌+◌, ◌≤◌, ◌<◌}
use native.Mathlib.Omega.{arith}
use lib.Dec.{eqb}
use lib.ListN.{length, get_or, get_or-map, length-map}
use Rattle.std.proofs.lemmas.List.{get_or-take}
use Rattle.std.specs.Prelude.{◌==◌}
use Rattle.std.specs.List.{position, position_or_len}
use Rattle.std.specs.Option.{unwrap_or}
use Rattle.std.proofs.lemmas.List.Sums.{prefix_len-le-length}
use Rattle.bounded.specs.Lists.{Holds, listed}
use Rattle.bounded.proofs.Laws.{count_is, fits, reaches, whole}
use Rattle.image.specs.Limits.{max_fields}
use Rattle.plan.specs.Lists.{◌&◌, any}
use Rattle.plan.specs.Schema.{has, same}
use Rattle.plan.specs.Syntax.{Name, nm}
use Rattle.plan.proofs.Names.{same_eq}
use Rattle.utils.specs.Masks.{name_at}
use Rattle.utils.specs.Fields.{Fields, Names, coded, field_at, named, place_in}
use Rattle.utils.specs.declared.schema_columns.ColumnReference.{ColumnReference}

module _ {f : Fields} {ns : List Name} (h : Names f ns) where
  -- how many names there are
  pub names_count : f.len ≤ max_fields → length ns ≡ f.len
  names_count le = sym (length-map ns coded) ∙ count_is h.holds le

  pub names_fit : length ns ≤ max_fields → f.len ≤ max_fields
  names_fit le = fits h.holds (rw (length-map ns coded) le)

  -- what stands in the list's array
  pub names_listed : f.len ≤ max_fields → listed f ≡ map coded ns
  names_listed le = whole h.holds le

  -- the field i has the i-th name
  pub names_at : (i : ℕ) → i < max_fields → i < length ns → field_at f i ≡ name_at ns i
  names_at i l k =
      let c : i < length (map coded ns) = rw (length-map ns coded) k in
      let e : get_or f.at i (coded (nm 0 0)) ≡ get_or (map coded ns) i (coded (nm 0 0)) =
      sym (get_or-take f.len f.at i (coded (nm 0 0)) (reaches h.holds i l c))
      ∙ (ap (λ xs. get_or xs i (coded (nm 0 0))) h.holds.lists ∙ get_or-take max_fields (map coded ns) i (coded (nm 0 0)) l) in
      rw (e, get_or-map coded ns i (nm 0 0)) (back (name_at ns i))
    where
      back : (x : Name) → named (coded x) ≡ x
      back (nm q n) = refl

pub names_none : {f : Fields} → Holds f [] → Names f []
names_none h = record { holds = h }

-- a name is appended
pub names_more : {f g : Fields} (q n : ℕ) (ns : List Name) → Names f ns
    → ((xs : List ColumnReference) → Holds f xs → Holds g (xs ++ (record { q = q; n = n } ∷ []))) → Names g (ns ++ (nm q n ∷ []))
names_more {g = g} q n ns h push = record { holds = rw (map-append coded ns (nm q n ∷ [])) (push (map coded ns) h.holds) }

-- ---- the place of a name

abbrev pub is_name : ℕ → ℕ → ColumnReference → Bool
is_name q n x = (x.q == q) && (x.n == n)

pub place_is : (ns : List Name) (q n : ℕ) → position_or_len (is_name q n) (map coded ns) ≡ place_in ns (nm q n)
unfolding place_in ◌&◌
place_is [] q n = refl
place_is (nm p m ∷ ns) q n = go (eqb p q) (eqb m n) (place_is ns q n)
  where
    go : {j k : ℕ} (a b : Bool) → j ≡ k → cond (not (a && b)) (1 + j) 0 ≡ cond (a & b) 0 (suc k)
    go true true e = refl
    go true false e = omega (arith, e)
    go false b e = omega (arith, e)

-- a search that ends at the length where it finds none
pub found_or_len : {A : Type 0} (p : A → Bool) (xs : List A) → unwrap_or (position p xs) (length xs) ≡ position_or_len p xs
found_or_len p xs = grind (arith, prefix_len-le-length (λ x. not (p x)) xs)

-- the place of a name, sought among the names as the code has them
pub place_found : (ns : List Name) (q n : ℕ) {xs : List ColumnReference} → xs ≡ map coded ns
    → unwrap_or (position (is_name q n) xs) (length xs) ≡ place_in ns (nm q n)
place_found ns q n e = rw e (found_or_len (is_name q n) (map coded ns) ∙ place_is ns q n)

-- a name that the schema has is at its place
pub place_has : (ns : List Name) (x : Name) → has ns x ≡ true → (place_in ns x < length ns) × (name_at ns (place_in ns x) ≡ x)
unfolding any place_in
place_has [] x h = let z : ◌≡◌ {A = ℕ} 0 1 = cc in absurd (omega arith)
place_has (y ∷ ns) x h = go (same y x) refl h (place_has ns x)
  where
    go : (b : Bool) → same y x ≡ b → (b || has ns x) ≡ true
        → (has ns x ≡ true → (place_in ns x < length ns) × (name_at ns (place_in ns x) ≡ x))
        → (cond b 0 (suc (place_in ns x)) < length (y ∷ ns)) × (name_at (y ∷ ns) (cond b 0 (suc (place_in ns x))) ≡ x)
    go true e k rest = (omega arith, same_eq y x e)
    go false e k rest = let r = rest k in (omega (arith, r.0), r.1)
