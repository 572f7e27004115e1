-- A list that is longer than an image may be: all such have the same text, so what stands behind so many bytes does not matter.
use Prim.Native.Nat.{ℕ, ◌/◌, ◌≤◌, ◌<◌}
use native.Mathlib.Omega.{arith}
use mathlib.Core.Path.{◌≡◌, refl, sym, ◌∙◌}
use mathlib.Core.Bool.{Bool, true, false}
use mathlib.Core.List.{List, [], ◌++◌, append-nil}
use lib.ListN.{length, length-append}
use borrow.Author.Tests.{leb-true, ltb-true, ltb-false}
use Rattle.std.proofs.Common.{ltb}
use Rattle.image.specs.Limits.{max_records}
use Rattle.image.specs.Lowest.{unless}
use Rattle.plan.specs.Lists.{choose}
use Rattle.plan.proofs.Lists.{and_r}
use Rattle.acceptance.specs.Check.{buffer_ok, verdict, at, check}
use Rattle.rewrite.specs.OnBytes.{is_accepted}
use Rattle.text.specs.Lines.{refusal}
use Rattle.listing.specs.Listing.{listing}

-- an image has at most 2048 records
short : (s : List ℕ) → buffer_ok s ≡ true → length s / 32 ≤ max_records
unfolding buffer_ok
short s e = leb-true (length s / 32) max_records (and_r _ _ (and_r _ _ e))

-- a record more is too long
long_check : (s : List ℕ) → 65568 ≤ length s → check s ≡ verdict 1 0
unfolding check at unless
long_check s h = go (buffer_ok s) refl
  where
    go : (b : Bool) → buffer_ok s ≡ b → check s ≡ verdict 1 0
    go true e = absurd (omega (arith, short s e))
    go false e = rw e refl

long_refused : (s : List ℕ) → 65568 ≤ length s → listing s ≡ refusal 1 0
unfolding listing is_accepted choose
long_refused s h = rw (long_check s h) refl

-- so what stands behind does not matter
pub same_listing : (xs rest : List ℕ) → (length xs < 65568 → rest ≡ []) → listing xs ≡ listing (xs ++ rest)
same_listing xs rest end = go (ltb (length xs) 65568) refl
  where
    go : (b : Bool) → ltb (length xs) 65568 ≡ b → listing xs ≡ listing (xs ++ rest)
    go true e = rw (end (ltb-true _ _ e), append-nil xs) refl
    go false e =
        let long : 65568 ≤ length xs = ltb-false _ _ e in
        long_refused xs long ∙ sym (long_refused (xs ++ rest) (omega (arith, length-append xs rest)))
