-- Laws of lists of fixed room.
--     holds_none, added, not_added   none; one more where there is room; one more past the end
--     count_is, whole, fits          of a list that is whole: how many, what stands in it, that it is whole
--     holds_full                     past the end nothing changes
-- Assumes nothing.
use mathlib.Core.Path.{◌≡◌, sym, ◌∙◌}
use mathlib.Core.List.{List, [], ◌∷◌, ◌++◌}
use Prim.Native.Nat.{ℕ, ◌+◌, ◌≤◌, ◌<◌}
use native.Mathlib.Omega.{arith}
use native.Mathlib.Numerals.{add-one}
use lib.ListN.{length, set, length-append}
use lib.Seq.{take_all, take-append-le, take-suc-set}
use Rattle.bounded.specs.declared.Bounded.{Bounded}
use Rattle.bounded.specs.Lists.{most, listed, Holds}

pub holds_none : {T : Type 0} {N : ℕ} (xs : List T) → Holds {N = N} (record { at = xs; len = 0 }) []
unfolding most
holds_none {N = N} xs = record { lists = sym (take_all N [] (omega arith)); count = omega arith }

-- a list that holds none, and one that is empty
pub none_of : {T : Type 0} {N : ℕ} (c : Bounded T N) → (listed c ≡ []) × (c.len ≡ 0) → Holds c []
unfolding most
none_of {N = N} c h = record { lists = h.0 ∙ sym (take_all N [] (omega arith)); count = omega (arith, h.1) }

pub none_is : {T : Type 0} {N : ℕ} {c : Bounded T N} → Holds c [] → (listed c ≡ []) × (c.len ≡ 0)
unfolding most
none_is {N = N} h = (h.lists ∙ take_all N [] (omega arith), omega (arith, h.count))

module _ {T : Type 0} {N : ℕ} {c : Bounded T N} {xs : List T} (h : Holds c xs) where
  -- a list that is whole has as many as it says
  pub count_is : c.len ≤ N → length xs ≡ c.len
  unfolding most
  count_is small = omega (arith, h.count)

  -- a list of few enough is whole
  pub fits : length xs ≤ N → c.len ≤ N
  unfolding most
  fits small = omega (arith, h.count)

  -- one that is full is full of what it holds
  count_more : N ≤ c.len → (N ≤ length xs) × (most N (length xs + 1) ≡ N + 1)
  unfolding most
  count_more many = omega (arith, h.count)

  -- one that is too long is counted as one more than there is room for
  count_over : N < c.len → c.len ≡ N + 1
  unfolding most
  count_over many = omega (arith, h.count)

  -- a list that is whole stands in its array
  pub whole : c.len ≤ N → listed c ≡ xs
  whole small = h.lists ∙ take_all N xs (omega (arith, count_is small))

  -- what is held, and has room, stands in the list
  pub reaches : (i : ℕ) → i < N → i < length xs → i < c.len
  unfolding most
  reaches i l k = omega (arith, h.count)

  -- a list is too long if it holds more than there is room for
  pub is_long : N < c.len → N < length xs
  unfolding most
  is_long many = omega (arith, h.count)

  pub is_over : N < length xs → N < c.len
  unfolding most
  is_over many = omega (arith, h.count)

most_is : (room n : ℕ) → n ≤ room + 1 → most room n ≡ n
unfolding most
most_is room n h = omega arith

longer : {T : Type 0} (xs : List T) (x : T) → length (xs ++ (x ∷ [])) ≡ length xs + 1
longer xs x = length-append xs (x ∷ [])

module _ {T : Type 0} {N : ℕ} (c : Bounded T N) (x : T) (xs : List T) (h : Holds c xs) (long : length c.at ≡ N) where
  -- x is appended
  pub added : c.len < N → Holds {N = N} (record { at = set c.at c.len x; len = c.len + 1 }) (xs ++ (x ∷ []))
  added small =
      let n : length xs ≡ c.len = count_is h (omega arith) in
      let m : length (xs ++ (x ∷ [])) ≡ c.len + 1 = longer xs x ∙ rw n in
      record {
        lists = rw (add-one, take-suc-set c.at c.len x (omega arith), whole h (omega arith), take_all N (xs ++ (x ∷ [])) (omega arith));
        count = rw m (sym (most_is N (c.len + 1) (omega arith)));
      }

  -- there is no room for x
  pub not_added : N ≤ c.len → Holds {N = N} (record { at = c.at; len = N + 1 }) (xs ++ (x ∷ []))
  not_added many =
      let k = count_more h many in
      record {
        lists = rw (take-append-le N xs (x ∷ []) k.0, ← h.lists, take_all (N + 1) c.at (omega arith), take_all c.len c.at (omega arith));
        count = rw (longer xs x) (sym k.1);
      }

-- a list that is too long holds one more by doing nothing
pub holds_full : {T : Type 0} {N : ℕ} {c : Bounded T N} {xs : List T} (x : T) → Holds c xs → N < c.len → Holds c (xs ++ (x ∷ []))
holds_full {N = N} {c} {xs} x h many =
    let m = count_more h (omega arith) in
    record { lists = rw (take-append-le N xs (x ∷ []) m.0) h.lists; count = rw (longer xs x) (count_over h many ∙ sym m.1) }
