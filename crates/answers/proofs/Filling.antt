-- Laws of a buffer that is filled from the start: bytes, and then zeros.
-- Assumes nothing.
use mathlib.Core.Path.{◌≡◌, sym}
use mathlib.Core.List.{List, ◌++◌, append_assoc, append-nil}
use Prim.Native.Nat.{ℕ, ◌+◌, ◌-◌, ◌≤◌, ◌<◌}
use native.Mathlib.Omega.{arith}
use native.Mathlib.Numerals.{add-one}
use lib.ListN.{length, get_or, take, set, replicate-append-replicate}
use lib.Seq.{take-suc, take-suc-set, length-take-le}
use Rattle.rewrite.specs.OnBytes.{zeros, filled}

-- no zeros yet
pub zero_none : (xs : List ℕ) (m : ℕ) → xs ≡ xs ++ zeros (m - m)
zero_none xs m = let e : m - m ≡ 0 = omega arith in rw e (sym (append-nil xs))

-- one zero more behind bytes and zeros
pub zero_more : (xs out : List ℕ) (m i : ℕ) → m ≤ i → i < length out → take i out ≡ xs ++ zeros (i - m)
    → take (i + 1) (set out i 0) ≡ xs ++ zeros (i + 1 - m)
zero_more xs out m i le lt h =
    let e : i - m + 1 ≡ i + 1 - m = omega arith in
    rw (add-one, take-suc-set out i 0 lt, h, append_assoc, ← add-one, ← e, ← replicate-append-replicate {A = ℕ} (i - m) 1 0)

-- one byte more of a copy
pub byte_more : (work out : List ℕ) (i : ℕ) → i < length work → i < length out → take i out ≡ take i work
    → take (i + 1) (set out i (get_or work i 0)) ≡ take (i + 1) work
byte_more work out i lw lt h = rw (add-one, take-suc-set out i (get_or work i 0) lt, take-suc work i 0 lw, h)

-- the bytes that were copied, and zeros behind them
pub filled_is : (work out : List ℕ) (m n : ℕ) → m ≤ length work → take m out ≡ take m work
    → take m out ++ zeros (n - m) ≡ filled n (take m work)
unfolding filled
filled_is work out m n le h = rw (h, length-take-le m work le)
