-- Laws of the sets of the fields that pass a test.
--     masks_same      a test may be exchanged for another that says the same of each field
--     masks_none      the empty set is that of the test that nothing passes
--     masks_left, ..  the fields of the first, and of the second, of two schemas that share no field
--     masks_with, ..  one field more, which passes the test or not
--     masks_not       those that are not in a set
--     refers-none, .. the sets of the columns of an expression
-- Assumes nothing.
use mathlib.Core.Path.{◌≡◌, refl, sym, ap, ◌∙◌}
use mathlib.Core.Bool.{Bool, true, false, not, ◌||◌}
use mathlib.Core.List.{List, [], ◌∷◌, ◌++◌}
use Prim.Native.Nat.{ℕ, zero, suc, ◌+◌, ◌-◌, ◌≤◌, ◌<◌}
use native.Mathlib.Omega.{arith}
use lib.Dec.{eqb, ltb}
use lib.ListN.{length, length-append, get_or-append}
use lib.Bits.{bit_xor, xor_lt}
use lib.Seq.{get_or-append-add, get_or-append_seam}
use borrow.Author.Tests.{ltb-true, ltb-false, lt-ltb, le-ltb, eqb-true, eqb-false, eq-eqb, ne_eqb}
use Rattle.image.specs.Limits.{max_fields}
use Rattle.plan.specs.Lists.{any}
use Rattle.plan.specs.Schema.{has, same, nodup}
use Rattle.plan.specs.Syntax.{Name, nm}
use Rattle.plan.proofs.Names.{apart, same_refl}
use Rattle.utils.specs.Sets.{member}
use Rattle.utils.specs.Masks.{name_at, Masks}
use Rattle.utils.proofs.Members.{member_none, member_xor}

pub masks_same : {m : ℕ} {ns : List Name} {c d : Name → Bool}
    → ((i : ℕ) → i < length ns → c (name_at ns i) ≡ d (name_at ns i)) → Masks m ns c → Masks m ns d
masks_same f h = record { small = h.small; marks = λ i l. h.marks i l ∙ f i l; beyond = h.beyond }

pub masks_none : (ns : List Name) → Masks 0 ns (λ x. false)
masks_none ns = record { small = omega arith; marks = λ i l. member_none i; beyond = λ i l. member_none i }

-- the schema has the name at each of its places
pub has_at : (s : List Name) (i : ℕ) → i < length s → has s (name_at s i) ≡ true
unfolding any
has_at [] i l = absurd (omega arith)
has_at (y ∷ s) zero l = rw (same_refl y)
has_at (y ∷ s) (suc i) l = rw (has_at s i (omega arith)) (or_true (same y (name_at s i)))
  where
    or_true : (b : Bool) → (b || true) ≡ true
    or_true true = refl
    or_true false = refl

-- where two schemas share no field, the fields of the first stand in front
module _ (s t : List Name) (single : nodup (s ++ t) ≡ true) where
  first_at : (i : ℕ) → i < length s → name_at (s ++ t) i ≡ name_at s i
  first_at i l = get_or-append s t (nm 0 0) i l

  second_at : (i : ℕ) → length s ≤ i → name_at (s ++ t) i ≡ name_at t (i - length s)
  second_at i l =
      let e : i ≡ length s + (i - length s) = omega arith in
      ap (name_at (s ++ t)) e ∙ get_or-append-add s t (i - length s) (nm 0 0)

  -- the first has those below its length, and no other
  pub left_test : (i : ℕ) → i < length (s ++ t) → ltb i (length s) ≡ has s (name_at (s ++ t) i)
  left_test i l = go (ltb i (length s)) refl
    where
      go : (b : Bool) → ltb i (length s) ≡ b → b ≡ has s (name_at (s ++ t) i)
      go true e =
          let h : i < length s = ltb-true i (length s) e in
          rw (first_at i h) (sym (has_at s i h))
      go false e =
          let h : length s ≤ i = ltb-false i (length s) e in
          let k : i - length s < length t = omega (arith, length-append s t) in
          rw (second_at i h) (sym (apart s t single (name_at t (i - length s)) (has_at t (i - length s) k)))

  -- the second has just the others
  pub right_test : (i : ℕ) → i < length (s ++ t) → not (has s (name_at (s ++ t) i)) ≡ has t (name_at (s ++ t) i)
  right_test i l = rw (← left_test i l) (go (ltb i (length s)) refl)
    where
      not_held : (b : Bool) → has t (name_at s i) ≡ b → i < length s → false ≡ b
      not_held true e h = sym (apart s t single (name_at s i) e) ∙ has_at s i h
      not_held false e h = refl

      go : (b : Bool) → ltb i (length s) ≡ b → not b ≡ has t (name_at (s ++ t) i)
      go true e =
          let h : i < length s = ltb-true i (length s) e in
          rw (first_at i h) (not_held (has t (name_at s i)) refl h)
      go false e =
          let h : length s ≤ i = ltb-false i (length s) e in
          let k : i - length s < length t = omega (arith, length-append s t) in
          rw (second_at i h) (sym (has_at t (i - length s) k))

  -- so the set of the places below its length is that of the fields of the first
  pub masks_left : (m : ℕ) → m < 18446744073709551616 → ((j : ℕ) → member m j ≡ ltb j (length s)) → Masks m (s ++ t) (has s)
  masks_left m small h =
      record {
        small = small;
        marks = λ i l. h i ∙ left_test i l;
        beyond = λ i l. h i ∙ le-ltb i (length s) (omega (arith, length-append s t));
      }

  -- and that of the others is that of the fields of the second
  pub masks_right : {m : ℕ} → Masks m (s ++ t) (λ x. not (has s x)) → Masks m (s ++ t) (has t)
  masks_right h = masks_same right_test h

-- the places that are not in a set
pub masks_not : (m low k : ℕ) (ns : List Name) (c : Name → Bool) → k ≤ max_fields → k ≡ length ns → low < 18446744073709551616
    → ((j : ℕ) → member low j ≡ ltb j k) → Masks m ns c → Masks (bit_xor low m) ns (λ x. not (c x))
masks_not m low k ns c le is small l h =
    record {
      small = xor_lt 64 low m small h.small;
      marks = λ i lt. member_xor low m i ∙ rw (l i, lt-ltb i k (omega arith)) (ap not (h.marks i lt));
      beyond = λ i ge. member_xor low m i ∙ rw (l i, le-ltb i k (omega arith)) (h.beyond i ge);
    }

-- one field more
masks_next : (m r : ℕ) (ns : List Name) (c : Name → Bool) (x : Name) → r < 18446744073709551616
    → ((j : ℕ) → (j ≡ length ns → ⊥) → member r j ≡ member m j) → member r (length ns) ≡ c x → Masks m ns c → Masks r (ns ++ (x ∷ [])) c
masks_next m r ns c x small other here h =
    record {
      small = small;
      marks = λ i l. at i l (eqb i (length ns)) refl;
      beyond = λ i l. let n = length-append ns (x ∷ []) in
          other i (λ (e : i ≡ length ns). absurd (omega arith)) ∙ h.beyond i (omega arith);
    }
  where
    at : (i : ℕ) → i < length (ns ++ (x ∷ [])) → (b : Bool) → eqb i (length ns) ≡ b → member r i ≡ c (name_at (ns ++ (x ∷ [])) i)
    at i l true e = rw (eqb-true i (length ns) e, get_or-append_seam ns x [] (nm 0 0)) here
    at i l false e =
        let q : i ≡ length ns → ⊥ = eqb-false i (length ns) e in
        let k : i < length ns = omega (arith, length-append ns (x ∷ [])) in
        rw (get_or-append ns (x ∷ []) (nm 0 0) i k) (other i q ∙ h.marks i k)

-- it passes the test, and its place is added
pub masks_with : (m r k : ℕ) (ns : List Name) (c : Name → Bool) (x : Name) → r < 18446744073709551616 → k ≡ length ns
    → ((j : ℕ) → member r j ≡ (eqb k j || member m j)) → true ≡ c x → Masks m ns c → Masks r (ns ++ (x ∷ [])) c
masks_with m r k ns c x small is h q =
    masks_next m r ns c x small (λ j ne. h j ∙ rw (ne_eqb k j (λ (e : k ≡ j). ne (sym e ∙ is))))
    (h (length ns) ∙ rw (eq-eqb k (length ns) is) q)

-- it does not
pub masks_without : (m : ℕ) (ns : List Name) (c : Name → Bool) (x : Name) → false ≡ c x → Masks m ns c → Masks m (ns ++ (x ∷ [])) c
masks_without m ns c x q h = masks_next m m ns c x h.small (λ j ne. refl) (h.beyond (length ns) (omega arith) ∙ q) h
