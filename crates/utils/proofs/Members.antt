-- Laws of sets of places.
--     member_or, ..   which places a sum of sets, an intersection and a set of one place have
--     within_count    all of v is in m exactly if v has as many places in common with m as it has
--     within_both, .. when a sum of sets, a set of one place and the empty set are within another
-- Assumes nothing.
use mathlib.Core.Path.{◌≡◌, refl, sym, ap, ◌∙◌}
use mathlib.Core.Bool.{Bool, true, false, not, ◌||◌, cond}
use Prim.Native.Nat.{ℕ, zero, suc, ◌+◌, ◌-◌, ◌*◌, ◌/◌, ◌%◌, ◌^◌, ◌≤◌, ◌<◌, min, max}
use native.Mathlib.Nat.{mod-lt, zero-lt-suc, min-le_left, min-zero, zero-min, suc-min-suc, zero-add, suc-add, div-one, one-mul, pow-suc}
use native.Mathlib.Numerals.{add-one}
use native.Mathlib.Omega.{arith}
use lib.Arith.{digits_div, digits_mod, lt-one, dbl_pred}
use lib.Bits.{bit_and, bit_or, bit_xor, differ, and_step, or_step, xor_step, shifted_half, shifted_even}
use lib.Count.{ones, ones_step}
use lib.Pow.{pow_pos, shr-shr, shr_lt}
use lib.Dec.{eqb, ltb, leb-suc-suc, eqb-zero-suc, eqb-suc-zero, eqb-suc-suc}
use borrow.Author.Tests.{eq-eqb, ne_eqb, eqb-true, eqb-false, lt-ltb, le-ltb}
use Rattle.plan.specs.Lists.{◌&◌}
use Rattle.plan.proofs.Lists.{and_intro, and_l, and_r, and_true, and_left_comm, AndSort}
use Rattle.utils.specs.Sets.{member, within}

-- ---- one digit

-- a digit is 0 or 1
two : (n : ℕ) → n % 2 < 2
two n = mod-lt n (zero-lt-suc 1)

or_digits : (a b : ℕ) → a < 2 → b < 2 → (max a b < 2) × (eqb (max a b) 1 ≡ (eqb a 1 || eqb b 1))
or_digits zero zero h k = (omega arith, refl)
or_digits zero (suc zero) h k = (omega arith, refl)
or_digits (suc zero) zero h k = (omega arith, refl)
or_digits (suc zero) (suc zero) h k = (omega arith, refl)
or_digits (suc (suc a)) b h k = absurd (omega arith)
or_digits zero (suc (suc b)) h k = absurd (omega arith)
or_digits (suc zero) (suc (suc b)) h k = absurd (omega arith)

xor_digits : (a b : ℕ) → a < 2 → b < 2 → (differ a b < 2) × (eqb (differ a b) 1 ≡ cond (eqb a 1) (not (eqb b 1)) (eqb b 1))
xor_digits zero b h k = (k, refl)
xor_digits (suc zero) zero h k = (omega arith, refl)
xor_digits (suc zero) (suc zero) h k = (omega arith, refl)
xor_digits (suc zero) (suc (suc b)) h k = absurd (omega arith)
xor_digits (suc (suc a)) b h k = absurd (omega arith)

-- the digits of a number that is given as its last digit and the rest
half : {n d : ℕ} (q : ℕ) → d < 2 → n ≡ q * 2 + d → n / 2 ≡ q
half q h e = rw e (digits_div q h)

last : {n d : ℕ} (q : ℕ) → d < 2 → n ≡ q * 2 + d → n % 2 ≡ d
last q h e = rw e (digits_mod q h)

-- ---- which places a set has

pub member_none : (i : ℕ) → member 0 i ≡ false
unfolding member
member_none zero = refl
member_none (suc i) = member_none i

pub member_or : (a b i : ℕ) → member (bit_or a b) i ≡ (member a i || member b i)
unfolding member
member_or a b zero =
    let h = or_digits (a % 2) (b % 2) (two a) (two b) in
    rw (last (bit_or (a / 2) (b / 2)) h.0 (or_step a b)) h.1
member_or a b (suc i) =
    let h = or_digits (a % 2) (b % 2) (two a) (two b) in
    rw (half (bit_or (a / 2) (b / 2)) h.0 (or_step a b)) (member_or (a / 2) (b / 2) i)

pub member_one : (i j : ℕ) → member (2 ^ i) j ≡ eqb i j
unfolding member
member_one zero zero = refl
member_one zero (suc j) = rw eqb-zero-suc (member_none j)
member_one (suc i) zero = rw (eqb-suc-zero, ← one-mul (2 ^ suc i), shifted_even 1 i)
member_one (suc i) (suc j) = rw (eqb-suc-suc, ← one-mul (2 ^ suc i), shifted_half 1 i, one-mul) (member_one i j)

pub member_xor : (a b i : ℕ) → member (bit_xor a b) i ≡ cond (member a i) (not (member b i)) (member b i)
unfolding member
member_xor a b zero =
    let h = xor_digits (a % 2) (b % 2) (two a) (two b) in
    rw (last (bit_xor (a / 2) (b / 2)) h.0 (xor_step a b)) h.1
member_xor a b (suc i) =
    let h = xor_digits (a % 2) (b % 2) (two a) (two b) in
    rw (half (bit_xor (a / 2) (b / 2)) h.0 (xor_step a b)) (member_xor (a / 2) (b / 2) i)

-- the places below k
pub member_low : (k j : ℕ) → member (2 ^ k - 1) j ≡ ltb j k
unfolding member
member_low zero j = rw (le-ltb j 0 (omega arith)) (member_none j)
member_low (suc k) j = go j (λ i. member_low k i)
  where
    ones : 2 ^ suc k - 1 ≡ (2 ^ k - 1) * 2 + 1
    ones = ap (λ (x : ℕ). x - 1) (pow-suc 2 k) ∙ dbl_pred (pow_pos k)

    go : (j : ℕ) → ((i : ℕ) → member (2 ^ k - 1) i ≡ ltb i k) → member (2 ^ suc k - 1) j ≡ ltb j (suc k)
    go zero ih = rw (last (2 ^ k - 1) (omega arith) ones, lt-ltb 0 (suc k) (omega arith))
    go (suc i) ih = rw (half (2 ^ k - 1) (omega arith) ones, leb-suc-suc) (ih i)

-- a place by one division
pub member_shifted : (v i : ℕ) → member v i ≡ eqb (v / 2 ^ i % 2) 1
unfolding member
member_shifted v zero = rw (div-one v)
member_shifted v (suc i) = let e : 1 + i ≡ suc i = omega arith in member_shifted (v / 2) i ∙ rw (shr-shr v 1 i, e)

-- ---- the sets within another

-- a set may be given by its places
pub within_same : (k v w m : ℕ) → ((i : ℕ) → i < k → member v i ≡ member w i) → within k v m ≡ within k w m
unfolding within
within_same zero v w m h = refl
within_same (suc k) v w m h = rw (h k (omega arith), within_same k v w m (λ i l. h i (omega arith)))

pub within_none : (k m : ℕ) → within k 0 m ≡ true
unfolding within ◌&◌
within_none zero m = refl
within_none (suc k) m = rw (member_none k) (within_none k m)

-- of two digits and of one, in one place
or_into : (a b m : Bool) → (not (a || b) || m) ≡ (not a || m) & (not b || m)
unfolding ◌&◌
or_into true true true = refl
or_into true true false = refl
or_into true false true = refl
or_into true false false = refl
or_into false b m = refl

pub within_both : (k a b r m : ℕ) → ((j : ℕ) → member r j ≡ (member a j || member b j)) → within k r m ≡ within k a m & within k b m
unfolding within
within_both zero a b r m h = sym (and_true true)
within_both (suc k) a b r m h = rw (h k, or_into (member a k), within_both k a b r m h) (pairs _ _ _ _)
  where
    pairs : (x y v w : Bool) → (x & y) & (v & w) ≡ (x & v) & (y & w)
    pairs x y v w = simp AndSort

held_once : (a m w : Bool) → m & w ≡ m & ((not a || m) & w)
unfolding ◌&◌
held_once true true w = refl
held_once false true w = refl
held_once a false w = refl

-- a set with one place besides
pub within_with : (k i r v m : ℕ) → ((j : ℕ) → member r j ≡ (eqb i j || member v j)) → i < k → within k r m ≡ member m i & within k v m
unfolding within
within_with zero i r v m h l = absurd (omega arith)
within_with (suc k) i r v m h l = go (eqb i k) refl (λ s. within_with k i r v m h s)
  where
    go : (b : Bool) → eqb i k ≡ b → (i < k → within k r m ≡ member m i & within k v m)
        → (not (member r k) || member m k) & within k r m ≡ member m i & ((not (member v k) || member m k) & within k v m)
    go true e rest =
        let same : within k r m ≡ within k v m =
        within_same k r v m (λ j s. h j ∙ rw (ne_eqb i j (λ (q : i ≡ j). absurd (omega (arith, eqb-true i k e))))) in
        rw (h k, e, same, eqb-true i k e) (held_once (member v k) (member m k) (within k v m))
    go false e rest = rw (h k, e, rest (omega (arith, eqb-false i k e))) (simp AndSort)

-- what `within` says of one place, and when it holds
pub within_at : (k v m i : ℕ) → within k v m ≡ true → i < k → member v i ≡ true → member m i ≡ true
unfolding within
within_at zero v m i h l e = absurd (omega arith)
within_at (suc k) v m i h l e = go (eqb i k) refl (λ s. within_at k v m i (and_r _ _ h) s e)
  where
    into : (a b : Bool) → a ≡ true → (not a || b) ≡ true → b ≡ true
    into true b e h = h
    into false b e h = cc

    go : (b : Bool) → eqb i k ≡ b → (i < k → member m i ≡ true) → member m i ≡ true
    go true q rest = rw (eqb-true i k q) (into (member v k) (member m k) (rw (eqb-true i k q) at e) (and_l _ _ h))
    go false q rest = rest (omega (arith, eqb-false i k q))

pub within_all : (k v m : ℕ) → ((i : ℕ) → i < k → member v i ≡ true → member m i ≡ true) → within k v m ≡ true
unfolding within
within_all zero v m h = refl
within_all (suc k) v m h = and_intro (from (member v k) (member m k) (h k (omega arith))) (within_all k v m (λ i l. h i (omega arith)))
  where
    from : (a b : Bool) → (a ≡ true → b ≡ true) → (not a || b) ≡ true
    from true b f = f refl
    from false b f = refl

-- ---- counting

-- the lowest place, and the others one place lower
within_low : (k v m : ℕ) → within (suc k) v m ≡ (not (member v 0) || member m 0) & within k (v / 2) (m / 2)
unfolding within member
within_low zero v m = refl
within_low (suc k) v m = rw (within_low k v m) (and_left_comm _ _ _)

-- one place counted: it is counted in both, or in neither, or v has it alone
count_digit : (r s a b : ℕ) → r < 2 → s < 2 → a ≤ b → eqb (min r s + a) (r + b) ≡ (not (eqb r 1) || eqb s 1) & eqb a b
unfolding ◌&◌
count_digit zero s a b h k l = rw (zero-min, zero-add, zero-add)
count_digit (suc zero) zero a b h k l = rw (min-zero, zero-add) (ne_eqb a (1 + b) (λ (e : a ≡ 1 + b). absurd (omega arith)))
count_digit (suc zero) (suc zero) a b h k l = rw (suc-min-suc, zero-min, suc-add, suc-add, zero-add, zero-add, eqb-suc-suc)
count_digit (suc zero) (suc (suc s)) a b h k l = absurd (omega arith)
count_digit (suc (suc r)) s a b h k l = absurd (omega arith)

and_digits : (a b : ℕ) → a < 2 → min a b < 2
and_digits a b h = omega (arith, min-le_left a b)

-- the places that v and m have in common, counted
ones_and : (v m : ℕ) → ones (bit_and v m) ≡ min (v % 2) (m % 2) + ones (bit_and (v / 2) (m / 2))
ones_and v m =
    let h = and_digits (v % 2) (m % 2) (two v) in
    ones_step (bit_and v m) ∙ rw (last (bit_and (v / 2) (m / 2)) h (and_step v m), half (bit_and (v / 2) (m / 2)) h (and_step v m))

-- are no more than those of v
common_le : (k v m : ℕ) → v < 2 ^ k → ones (bit_and v m) ≤ ones v
common_le zero v m h = rw (lt-one h) (omega arith)
common_le (suc k) v m h =
    omega (arith, ones_and v m, ones_step v, min-le_left (v % 2) (m % 2), common_le k (v / 2) (m / 2) (shr_lt k 1 (rw add-one h)))

-- all of v is in m exactly if it has as many places in common with m as it has
pub within_count : (k v m : ℕ) → v < 2 ^ k → eqb (ones (bit_and v m)) (ones v) ≡ within k v m
unfolding within member
within_count zero v m h = rw (lt-one h) (eq-eqb (ones (bit_and 0 m)) (ones 0) refl)
within_count (suc k) v m h =
    let small : v / 2 < 2 ^ k = shr_lt k 1 (rw add-one h) in
    let le = common_le k (v / 2) (m / 2) small in
    rw (
      ones_and v m,
      ones_step v,
      count_digit (v % 2) (m % 2) _ _ (two v) (two m) le,
      within_low k v m,
      within_count k (v / 2)
          (m / 2) small,
    )
