-- What `any` and `all` over the indices of a list from a on say of what stands there. Assumes nothing.
use Rattle.std.proofs.Common.{◌≡◌, refl, ◌∙◌, ℕ, zero, suc, ◌+◌, ◌<◌, Bool, true, false, ◌||◌, List, [], ◌∷◌, length, get_or, drop, arith}
use Rattle.std.proofs.lemmas.List.{get_or-drop}
use Rattle.std.specs.Prelude.{MatchBool}
use Rattle.std.specs.List.{range_with_len, AllWithin, HoldsAt}
use Rattle.std.proofs.lemmas.List.FromFn.{length-range_with_len, get_or-range_with_len}
use lib.ListN.{length-drop}
use Rattle.plan.specs.Lists.{◌&◌, any, all}

module _ {A : Type 0} (f : A → Bool) (d : A) where
  any_at : (xs : List A) (k : ℕ) → k < length xs → f (get_or xs k d) ≡ true → true ≡ any f xs
  unfolding any
  any_at [] k h t = absurd (omega arith)
  any_at (x ∷ xs) zero h t = rw t
  any_at (x ∷ xs) (suc k) h t = go (f x) (any_at xs k (omega arith) t)
    where
      go : (b : Bool) → true ≡ any f xs → true ≡ (b || any f xs)
      go true g = refl
      go false g = g

  any_nowhere : (xs : List A) → ((k : ℕ) → k < length xs → f (get_or xs k d) ≡ false) → false ≡ any f xs
  unfolding any
  any_nowhere [] h = refl
  any_nowhere (x ∷ xs) h = rw (h 0 (omega arith)) (any_nowhere xs (λ k lt. h (suc k) (omega arith)))

  all_everywhere : (xs : List A) → ((k : ℕ) → k < length xs → f (get_or xs k d) ≡ true) → true ≡ all f xs
  unfolding all ◌&◌
  all_everywhere [] h = refl
  all_everywhere (x ∷ xs) h = rw (h 0 (omega arith)) (all_everywhere xs (λ k lt. h (suc k) (omega arith)))

  not_all : (xs : List A) (k : ℕ) → k < length xs → f (get_or xs k d) ≡ false → false ≡ all f xs
  unfolding all ◌&◌
  not_all [] k h t = absurd (omega arith)
  not_all (x ∷ xs) zero h t = rw t
  not_all (x ∷ xs) (suc k) h t = go (f x) (not_all xs k (omega arith) t)
    where
      go : (b : Bool) → false ≡ all f xs → false ≡ (b & all f xs)
      go true g = g
      go false g = refl

  -- the test at the index i gives b
  abbrev pub Gives : List A → Bool → ℕ → Type 0
  Gives xs b i = f (get_or xs i d) ≡ b

  -- the indices from a on
  module _ (xs : List A) (a n : ℕ) (e : a + n ≡ length xs) where
    long : length (drop a xs) ≡ n
    long = length-drop a xs ∙ omega (arith, e)

    at : (b : Bool) (k : ℕ) → k < n → Gives xs b (get_or (range_with_len a n) k 0) → f (get_or (drop a xs) k d) ≡ b
    at b k lt h = rw (get_or-drop a xs k d) (rw (get_or-range_with_len a n k 0 lt) at h)

    pub any_ranged : (r : Bool) → MatchBool r ((k : ℕ) × (k < length (range_with_len a n)) × HoldsAt (Gives xs true) (range_with_len a n) k)
        (AllWithin (Gives xs false) (range_with_len a n) 0 (length (range_with_len a n))) → r ≡ any f (drop a xs)
    any_ranged true h =
        let lt : h.0 < n = rw length-range_with_len at h.1 in any_at (drop a xs) h.0 (omega (arith, long)) (at true h.0 lt (h.2 0))
    any_ranged false h = any_nowhere (drop a xs) (λ k lt.
        let m : k < n = omega (arith, long) in at false k m (h k 0 (omega arith) (rw length-range_with_len m)))

    pub all_ranged : (r : Bool) → MatchBool r (AllWithin (Gives xs true) (range_with_len a n) 0 (length (range_with_len a n)))
        ((k : ℕ) × (k < length (range_with_len a n)) × HoldsAt (Gives xs false) (range_with_len a n) k) → r ≡ all f (drop a xs)
    all_ranged true h = all_everywhere (drop a xs) (λ k lt.
        let m : k < n = omega (arith, long) in at true k m (h k 0 (omega arith) (rw length-range_with_len m)))
    all_ranged false h =
        let lt : h.0 < n = rw length-range_with_len at h.1 in not_all (drop a xs) h.0 (omega (arith, long)) (at false h.0 lt (h.2 0))
