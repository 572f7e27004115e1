-- `sets::FieldSet::low_places` meets its contract: a number of k ones.
use mathlib.Core.Path.{◌≡◌, ◌∙◌}
use Prim.Native.Nat.{ℕ, ◌*◌, ◌%◌, ◌^◌, ◌<◌}
use native.Mathlib.Nat.{one-mul}
use native.Mathlib.Omega.{arith}
use lib.Pow.{shl_exact}
use Rattle.image.specs.Limits.{max_fields}
use Rattle.utils.proofs.Members.{member_low}
use Rattle.utils.proofs.sets.FieldSet.low_places.Goals as goal

-- one digit, shifted
shifted : (k : ℕ) → k < 64 → 1 * 2 ^ k % 18446744073709551616 ≡ 2 ^ k
shifted k h = shl_exact {a = 1} 1 k 64 (omega arith) (omega arith) ∙ one-mul (2 ^ k)

pub returns-then-k-eq-MAX_FIELDS : goal.returns-then-k-eq-MAX_FIELDS
returns-then-k-eq-MAX_FIELDS c =
    λ j. rw c.if-k-eq-MAX_FIELDS.true (member_low max_fields j)

pub returns : goal.returns
returns c =
    λ j. rw (shifted c.args.k (omega (arith, c.if-k-eq-MAX_FIELDS.false))) (member_low c.args.k j)
