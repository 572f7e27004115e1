-- `words::put_word` meets its contract: the four bytes stand in the place of those that stood there.
use mathlib.Core.Path.{◌≡◌, sym, ◌∙◌, refl}
use Prim.Native.Nat.{ℕ, ◌+◌, ◌-◌, ◌%◌, ◌/◌}
use native.Mathlib.Omega.{arith}
use Rattle.std.specs.Int.{w32, to_le_bytes}
use Rattle.std.proofs.lemmas.List.Edits.{sets-eq}
use Rattle.std.proofs.lemmas.Slice.{put_mid-paste}
use Rattle.image.specs.Word.{le}
use Rattle.image.proofs.words.put_word.Goals as goal

byte_0 : (v : ℕ) → v % 4294967296 % 256 ≡ v % 256
byte_0 v = omega arith

byte_1 : (v : ℕ) → v % 4294967296 / 256 % 256 ≡ v / 256 % 256
byte_1 v = omega arith

byte_2 : (v : ℕ) → v % 4294967296 / 65536 % 256 ≡ v / 65536 % 256
byte_2 v = omega arith

byte_3 : (v : ℕ) → v % 4294967296 / 16777216 % 256 ≡ v / 16777216 % 256
byte_3 v = omega arith

bytes_are : (v : ℕ) → to_le_bytes w32 (v % 4294967296) ≡ le v
unfolding le
bytes_are v = rw (byte_0 v, byte_1 v, byte_2 v, byte_3 v)

pub returns : goal.returns
unfolding le
returns c =
    let a = c.args in
    let is = c.copy_from_slice.ensures.after ∙ c.to_le_bytes.ensures ∙ bytes_are a.v in
    put_mid-paste a.at (a.at + 4 - a.at) a.out.now _ (le a.v) 4 is (omega arith) refl
    ∙ sym (sets-eq (le a.v) a.out.now a.at (omega arith))
