-- What is written is bytes.
use Prim.Native.Nat.{ℕ, zero, suc, ◌+◌, ◌/◌, ◌%◌, ◌<◌}
use native.Mathlib.Omega.{arith}
use mathlib.Core.List.{List, [], ◌∷◌, ◌++◌}
use Rattle.image.specs.Word.{le, Bytes}
use Rattle.image.specs.Tree.{Label, Forest, none, node, Tree, size}
use Rattle.image.specs.Flat.{bytes_of, enc_any, enc}

-- a list of bytes, built up
data Written : List ℕ → Type 0 where
  at_end : Written []
  then : {x : ℕ} {xs : List ℕ} → x < 256 → Written xs → Written (x ∷ xs)

append : {a b : List ℕ} → Written a → Written b → Written (a ++ b)
append at_end k = k
append (then h hs) k = then h (append hs k)

byte : (n : ℕ) → n % 256 < 256
byte n = omega arith

word_written : (v : ℕ) → Written (le v)
unfolding le
word_written v = then (byte v) (then (byte (v / 256)) (then (byte (v / 65536)) (then (byte (v / 16777216)) at_end)))

record_written : (l : Label) (a b : ℕ) → Written (bytes_of l a b)
unfolding bytes_of
record_written l a b =
    append (word_written l.kind) (append (word_written l.p) (append (word_written l.q) (append (word_written l.r)
    (append (word_written l.lo) (append (word_written l.hi) (append (word_written a) (word_written b)))))))

forest_written : (b : ℕ) (f : Forest) → Written (enc_any b f)
forest_written b none = at_end
forest_written b (node l cs ns) =
    append (record_written l _ _) (append (forest_written (b + 1) cs) (forest_written (b + 1 + size cs) ns))

bytes : {s : List ℕ} → Written s → Bytes s
bytes at_end i = omega arith
bytes (then h hs) zero = h
bytes (then h hs) (suc i) = bytes hs i

-- the image of a tree is bytes
pub image_bytes : (b : ℕ) (t : Tree) → Bytes (enc b t)
image_bytes b t = bytes (append (record_written t.label _ _) (forest_written (b + 1) t.below))
