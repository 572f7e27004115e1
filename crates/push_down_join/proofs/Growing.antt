-- The partners of the fields that a loop has passed, and the set of those that have none, place by place.
-- Assumes nothing.
use mathlib.Core.Path.{◌≡◌, refl, ap, ◌∙◌}
use mathlib.Core.Bool.{Bool, true, false, not}
use mathlib.Core.List.{List, [], ◌∷◌, ◌++◌, map, map-append}
use Prim.Native.Nat.{ℕ, ◌+◌, ◌≤◌, ◌<◌}
use lib.ListN.{length, take, get_or, get_or-map, length-map}
use lib.Seq.{take_all}
use Rattle.std.specs.Prelude as P
use Rattle.std.specs.Option.{is_some, unwrap_or}
use Rattle.conjuncts.specs.Items.{Holds, listed}
use Rattle.image.specs.Limits.{max_fields}
use Rattle.image.specs.Tree.{Forest}
use Rattle.plan.specs.Syntax.{Name, nm}
use Rattle.rewrite.specs.PushDownFilter.{no_partner}
use Rattle.utils.specs.Fields.{Fields, Names, coded, named}
use Rattle.utils.specs.declared.schema_columns.ColumnReference.{ColumnReference}
use Rattle.utils.specs.Masks.{name_at, Masks}
use Rattle.utils.proofs.Named.{names_listed}
use Rattle.push_down_join.specs.Partners.{Swapped, name_of, partner_in, or_self, Swaps}
use Rattle.push_down_base.proofs.Masking.{Marks, one_more, masks_start, masks_step, masks_end}

-- the first i are passed
pub record Swapping (to : Fields) (alone : ℕ) (f : Forest) (ns : List Name) (i : ℕ) : Type 0 where
  pub names : Names to (map (λ x. or_self x (partner_in x f)) (take i ns))
  pub masks : Masks alone (take i ns) (λ x. no_partner (partner_in x f))

-- ---- the items of a schema

module _ {f : Fields} {ns : List Name} {xs : List ColumnReference} (h : Names f ns) (le : f.len ≤ max_fields) (e : xs ≡ listed f) where
  pub items_count : length xs ≡ length ns
  items_count = ap length (e ∙ names_listed h le) ∙ length-map ns coded

  pub items_at : (i : ℕ) → named (get_or xs i (coded (nm 0 0))) ≡ name_at ns i
  items_at i = rw (e ∙ names_listed h le, get_or-map coded ns i (nm 0 0)) (back (name_at ns i))
    where
      back : (x : Name) → named (coded x) ≡ x
      back (nm q n) = refl

-- ---- a column and its partner

-- the partner where there is one, else the column itself
partnered : (c : P.Option ColumnReference) (x : ColumnReference) → unwrap_or c x ≡ coded (or_self (named x) (name_of c))
partnered P.None x = refl
partnered (P.Some y) x = refl

pub unpartnered : (c : P.Option ColumnReference) (b : Bool) → is_some c ≡ not b → b ≡ no_partner (name_of c)
unfolding no_partner
unpartnered P.None true e = refl
unpartnered P.None false e = cc
unpartnered (P.Some y) true e = cc
unpartnered (P.Some y) false e = refl

-- ---- the fields that are passed

module _ {f : Forest} {ns : List Name} where
  pub swap_start : {to : Fields} → Names to [] → Swapping to 0 f ns 0
  swap_start h = record { names = h; masks = masks_start ns _ }

  pub swap_step : {to to' : Fields} {alone alone' i : ℕ} {b : Bool} (c : P.Option ColumnReference) (x : ColumnReference) → i < length ns
      → named x ≡ name_at ns i → name_of c ≡ partner_in (named x) f → b ≡ no_partner (name_of c)
      → ((xs : List ColumnReference) → Holds to xs → Holds to' (xs ++ (unwrap_or c x ∷ []))) → Marks alone alone' i b
      → Swapping to alone f ns i → Swapping to' alone' f ns (i + 1)
  swap_step {to' = to'} {i = i} {b = b} c x lt e t none push mark h =
      let none' : b ≡ no_partner (partner_in (name_at ns i) f) = rw (← e, ← t) none in
      let n : unwrap_or c x ≡ coded (or_self (name_at ns i) (partner_in (name_at ns i) f)) = rw (← e, ← t) (partnered c x) in
      record {
        names = record { holds = rw (one_more ns i lt, map-append, map-append, ← n) (push _ h.names.holds) };
        masks = masks_step i b ns (λ x. no_partner (partner_in x f)) mark lt none' h.masks;
      }

  pub swap_end : {r : Swapped} {i : ℕ} → length ns ≤ i → Swapping r.to r.alone f ns i → Swaps r f ns
  swap_end {i = i} le h = record { to = rw (take_all i ns le) at h.names; alone = masks_end i ns le h.masks }
