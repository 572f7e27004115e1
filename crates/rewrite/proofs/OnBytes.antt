-- Laws of the calls on bytes: how long an image and an output are, and what a refusal leaves.
use Prim.Native.Nat.{ℕ, ◌+◌, ◌*◌, ◌-◌, ◌≤◌}
use native.Mathlib.Omega.{arith}
use mathlib.Core.Path.{◌≡◌}
use mathlib.Core.List.{List}
use lib.ListN.{length, length-append, length-replicate}
use Rattle.image.specs.Flat.{size_t, enc}
use Rattle.image.proofs.Writing.{bytes_of_length}
use Rattle.image.proofs.RoundTrip.{enc_length}
use Rattle.image.specs.Tree.{Tree}
use Rattle.rewrite.specs.OnBytes.{filled, zeros}

-- an image has 32 bytes for each record
pub tree_length : (b : ℕ) (t : Tree) → length (enc b t) ≡ 32 * size_t t
tree_length b t = simp (length-append, bytes_of_length) (omega (arith, enc_length (b + 1) t.below))

pub zeros_length : (room : ℕ) → length (zeros room) ≡ room
zeros_length room = length-replicate room 0

-- an answer that finds room fills the output
pub filled_length : (room : ℕ) (s : List ℕ) → length s ≤ room → length (filled room s) ≡ room
unfolding filled
filled_length room s h = simp length-append (omega (arith, zeros_length (room - length s)))
