-- `values::signed` meets its contract: below 2 ^ 63 the number itself, from there on the negative one.
use mathlib.Core.Path.{◌≡◌, refl, ◌∙◌}
use Prim.Native.Nat.{ℕ, zero, suc, ◌+◌, ◌*◌, ◌-◌, ◌^◌, ◌≤◌, ◌<◌}
use native.Mathlib.Nat.{zero-add}
use native.Mathlib.Omega.{arith}
use lib.IntN.{pos, negsuc, ◌-ℤ◌}
use mir.Syntax.{w64}
use mir.Val.{to_z, of_z, SFits}
use mir.ValLaws.{to_z-of_z}
use borrow.Author.Tests.{lt-ltb, le-ltb}
use Rattle.plan.specs.Read.{signed}
use Rattle.plan.proofs.values.signed.Goals as goal

small : (n : ℕ) → n < 2 ^ 63 → to_z w64 n ≡ pos n
small n h = rw (lt-ltb n (2 ^ 63) h)

minus : (y : ℕ) → negsuc 0 -ℤ pos y ≡ negsuc y
minus zero = refl
minus (suc k) = rw zero-add

high : (lo hi : ℕ) → lo < 4294967296 → hi < 2147483648 → to_z w64 (hi * 4294967296 + lo) ≡ signed lo hi
unfolding signed
high lo hi l h = rw (small (hi * 4294967296 + lo) (omega arith), lt-ltb hi 2147483648 h)

module _ (lo hi : ℕ) (l : lo < 4294967296) (h : 2147483648 ≤ hi) where
  low_fits : SFits w64 (negsuc 0 -ℤ to_z w64 ((4294967295 - hi) * 4294967296 + (4294967295 - lo)))
  low_fits = rw (small ((4294967295 - hi) * 4294967296 + (4294967295 - lo)) (omega arith), minus) (record { sfits = omega arith })

  low : to_z w64 (of_z w64 (negsuc 0 -ℤ to_z w64 ((4294967295 - hi) * 4294967296 + (4294967295 - lo)))) ≡ signed lo hi
  unfolding signed
  low = to_z-of_z w64 _ low_fits ∙ rw (small ((4294967295 - hi) * 4294967296 + (4294967295 - lo)) (omega arith), minus, le-ltb hi 2147483648 h)

pub returns-then-hi-lt2147483648 : goal.returns-then-hi-lt2147483648
returns-then-hi-lt2147483648 c =
    high _ _ c.requires.0 c.if-hi-lt2147483648.true

pub returns : goal.returns
returns c =
    low _ _ c.requires.0 c.if-hi-lt2147483648.false
