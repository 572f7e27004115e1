-- Laws of operands as the code sees them, and of what operators make of them.
--     seen_first, seen_more       one operand more
--     list_seen                   InList, by what is seen of the items
-- Assumes nothing.
use mathlib.Core.Path.{◌≡◌, refl}
use mathlib.Core.Bool.{Bool, true, false, not, ◌||◌, cond}
use mathlib.Core.List.{List, [], ◌∷◌, ◌++◌}
use Prim.Native.Nat.{ℕ}
use native.Mathlib.Omega.{arith}
use lib.ListN.{drop}
use Rattle.plan.specs.Lists.{any}
use Rattle.plan.specs.Syntax.{Value, null, eq}
use Rattle.plan.specs.Values.{ValueRecord}
use Rattle.meaning.specs.Meaning.{tri, is_t, is_f, is_n, not3, compared, in_list}
use Rattle.evaluate.specs.Operators.{operand, Sees}
use Rattle.evaluate.specs.declared.operands.Seen.{Seen}
use Rattle.evaluate.proofs.TruthLaws.{of_value, of_value_f}

-- ---- one operand more

any_snoc : {A : Type 0} (f : A → Bool) (xs : List A) (x : A) → any f (xs ++ (x ∷ [])) ≡ (any f xs || f x)
unfolding any
any_snoc f [] x = go (f x)
  where
    go : (b : Bool) → (b || false) ≡ b
    go true = refl
    go false = refl
any_snoc f (y ∷ xs) x = rw (any_snoc f xs x) (go (f y))
  where
    go : (b : Bool) → (b || (any f xs || f x)) ≡ ((b || any f xs) || f x)
    go true = refl
    go false = refl

abbrev saw : ℕ → ValueRecord → ValueRecord → ValueRecord → Bool → Bool → Seen
saw n a b d e z = record { count = n; first = a; second = b; third = d; equal = e; null = z }

module _ {s : Seen} (v : ValueRecord) where
  pub seen_first : (vs : List Value) → Sees s vs → s.count ≡ 0
      → Sees (saw 1 v s.second s.third s.equal s.null) (vs ++ (v.case ∷ []))
  unfolding any
  seen_first [] h z = record { count = refl; first = refl; second = h.second; third = h.third; equal = h.equal; null = h.null }
  seen_first (a ∷ []) h z = absurd (omega (arith, h.count))
  seen_first (a ∷ b ∷ []) h z = absurd (omega (arith, h.count))
  seen_first (a ∷ b ∷ d ∷ vs) h z = absurd (omega (arith, h.count))

  -- the item is compared with the first, and may be NULL
  module _ {e n : Bool} (e-is : e ≡ is_t (compared eq (s.first.case) (v.case))) (n-is : n ≡ is_n v.case) where
    equal_more : (a : Value) (vs : List Value) → Sees s (a ∷ vs)
        → (s.equal || e) ≡ any (λ w. is_t (compared eq a w)) (vs ++ (v.case ∷ []))
    equal_more a vs h = rw (e-is, any_snoc (λ w. is_t (compared eq a w)) vs (v.case), h.equal, h.first)

    null_more : (a : Value) (vs : List Value) → Sees s (a ∷ vs) → (s.null || n) ≡ any is_n (vs ++ (v.case ∷ []))
    null_more a vs h = rw (n-is, any_snoc is_n vs (v.case), h.null)

    pub seen_second : (vs : List Value) → Sees s vs → s.count ≡ 1
        → Sees (saw 2 s.first v s.third (s.equal || e) (s.null || n)) (vs ++ (v.case ∷ []))
    seen_second [] h c = absurd (omega (arith, h.count))
    seen_second (a ∷ []) h c =
        record { count = refl; first = h.first; second = refl; third = h.third; equal = equal_more a [] h; null = null_more a [] h }
    seen_second (a ∷ b ∷ []) h c = absurd (omega (arith, h.count))
    seen_second (a ∷ b ∷ d ∷ vs) h c = absurd (omega (arith, h.count))

    pub seen_third : (vs : List Value) → Sees s vs → s.count ≡ 2
        → Sees (saw 3 s.first s.second v (s.equal || e) (s.null || n)) (vs ++ (v.case ∷ []))
    seen_third [] h c = absurd (omega (arith, h.count))
    seen_third (a ∷ []) h c = absurd (omega (arith, h.count))
    seen_third (a ∷ b ∷ []) h c =
        let vs = b ∷ [] in
        record { count = refl; first = h.first; second = h.second; third = refl; equal = equal_more a vs h; null = null_more a vs h }
    seen_third (a ∷ b ∷ d ∷ vs) h c = absurd (omega (arith, h.count))

    pub seen_more : (vs : List Value) → Sees s vs → (s.count ≡ 0 → ⊥) → (s.count ≡ 1 → ⊥) → (s.count ≡ 2 → ⊥)
        → Sees (saw s.count s.first s.second s.third (s.equal || e) (s.null || n)) (vs ++ (v.case ∷ []))
    seen_more [] h none one two = absurd (none h.count)
    seen_more (a ∷ []) h none one two = absurd (one h.count)
    seen_more (a ∷ b ∷ []) h none one two = absurd (two h.count)
    seen_more (a ∷ b ∷ d ∷ more) h none one two =
        let vs = b ∷ d ∷ more in
        record { count = h.count; first = h.first; second = h.second; third = h.third; equal = equal_more a vs h; null = null_more a vs h }

-- ---- operators

pub not_of : (v : Value) → not3 (tri (is_t v) (is_f v)) ≡ not3 v
not_of v = rw (of_value v, of_value_f v)

pub list_seen : {s : Seen} {vs : List Value} {n : Bool} → Sees s vs → n ≡ is_n s.first.case
    → in_list (operand 0 vs) (drop 1 vs) ≡ cond n null (tri s.equal (not s.null))
list_seen {s = s} h e = rw (← h.equal, ← h.null, ← h.first, ← e)
