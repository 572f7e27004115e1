-- Laws of numbers in base 10: their digits one by one, and how many there are.
use Prim.Native.Nat.{ℕ, zero, suc, ◌+◌, ◌*◌, ◌/◌, ◌%◌, ◌^◌, ◌≤◌, ◌<◌}
use native.Mathlib.Nat.{pow-suc}
use native.Mathlib.Omega.{arith}
use mathlib.Core.Path.{◌≡◌, refl, ap, ◌∙◌}
use mathlib.Core.Bool.{Bool, true, false}
use mathlib.Core.List.{List, [], ◌∷◌, ◌++◌}
use lib.Dec.{ltb}
use lib.ListN.{length, length-append}
use borrow.Author.Tests.{lt-ltb, le-ltb, ltb-true, ltb-false}
use Rattle.std.proofs.lemmas.Fmt.{decimal_by_steps, length-decimal-le}
use Rattle.std.specs.Fmt as fmt
use Rattle.plan.specs.Lists.{choose}
use Rattle.text.specs.Lines.{digits, decimal, spaced}

-- where there is room for more digits, there are no more
digits_enough : (j k n : ℕ) → n < j → n < k → digits j n ≡ digits k n
unfolding digits choose
digits_enough zero k n h g = absurd (omega arith)
digits_enough (suc j) zero n h g = absurd (omega arith)
digits_enough (suc j) (suc k) n h g = go (ltb n 10) refl (λ l m. digits_enough j k (n / 10) l m)
  where
    go : (b : Bool) → ltb n 10 ≡ b → (n / 10 < j → n / 10 < k → digits j (n / 10) ≡ digits k (n / 10))
        → choose b ((48 + n) ∷ []) (digits j (n / 10) ++ ((48 + n % 10) ∷ []))
        ≡ choose b ((48 + n) ∷ []) (digits k (n / 10) ++ ((48 + n % 10) ∷ []))
    go true e ih = refl
    go false e ih =
        let m : 10 ≤ n = ltb-false n 10 e in
        ap (λ (l : List ℕ). l ++ ((48 + n % 10) ∷ [])) (ih (omega arith) (omega arith))

module _ (n : ℕ) where
  pub decimal_one : n < 10 → decimal n ≡ (48 + n) ∷ []
  unfolding decimal digits choose
  decimal_one h = rw (lt-ltb n 10 h)

  pub decimal_more : 10 ≤ n → decimal n ≡ decimal (n / 10) ++ ((48 + n % 10) ∷ [])
  unfolding decimal digits choose
  decimal_more h =
      rw (le-ltb n 10 h) (ap (λ (l : List ℕ). l ++ ((48 + n % 10) ∷ [])) (digits_enough n (suc (n / 10)) (n / 10) (omega arith) (omega arith)))

  pub length_one : n < 10 → length (decimal n) ≡ 1
  length_one h = ap length (decimal_one h)

  pub length_more : 10 ≤ n → length (decimal n) ≡ length (decimal (n / 10)) + 1
  length_more h = ap length (decimal_more h) ∙ length-append (decimal (n / 10)) ((48 + n % 10) ∷ [])

-- the library's digits of a number are these
decimal_printed : (n : ℕ) → n < 2 ^ 64 → decimal n ≡ fmt.decimal n
decimal_printed =
    decimal_by_steps (λ n ds. decimal n ≡ ds) decimal_one
    (λ n ds more e. decimal_more n more ∙ ap (λ (l : List ℕ). l ++ ((48 + n % 10) ∷ [])) e)

-- a number below the power has no more digits
pub decimal_length : (k n : ℕ) → n < 10 ^ suc k → length (decimal n) ≤ suc k
decimal_length zero n h = rw (decimal_one n (omega arith)) (omega arith)
decimal_length (suc k) n h = go (ltb n 10) refl (λ l. decimal_length k (n / 10) l)
  where
    go : (b : Bool) → ltb n 10 ≡ b → (n / 10 < 10 ^ suc k → length (decimal (n / 10)) ≤ suc k) → length (decimal n) ≤ suc (suc k)
    go true e ih = rw (decimal_one n (ltb-true n 10 e)) (omega arith)
    go false e ih =
        let m : 10 ≤ n = ltb-false n 10 e in
        let l : n < 10 ^ suc k * 10 = rw (pow-suc 10 (suc k)) at h in
        rw (decimal_more n m, length-append) (omega (arith, ih (omega arith)))

-- a word has at most ten digits, a number of 64 bits at most twenty
pub word_digits : {n : ℕ} → n < 4294967296 → length (decimal n) ≤ 10
word_digits {n} h = rw (decimal_printed n (omega arith)) (length-decimal-le 10 n (omega arith) (omega arith) (omega arith))

pub spaced_word : {n : ℕ} → n < 4294967296 → length (spaced n) ≤ 11
unfolding spaced
spaced_word h = omega (arith, word_digits h)

pub spaced_long : {n : ℕ} → n < 18446744073709551616 → length (spaced n) ≤ 21
unfolding spaced
spaced_long {n} h =
    let digits : length (decimal n) ≤ 20 = rw (decimal_printed n h) (length-decimal-le 20 n (omega arith) (omega arith) h) in omega (arith, digits)
