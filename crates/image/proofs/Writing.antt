-- Laws of runs of stores.
--     sets_append     two runs, one after the other, are one run
--     sets_after      the same, by the length of the first
--     flat_length     a flat tree has 32 bytes for each record
-- Assumes nothing.
use mathlib.Core.Path.{◌≡◌, refl, ◌∙◌}
use mathlib.Core.List.{List, [], ◌∷◌, ◌++◌}
use Prim.Native.Nat.{ℕ, suc, ◌+◌, ◌*◌}
use native.Mathlib.Omega.{arith}
use native.Mathlib.Nat.{add-zero, add-suc, suc-add}
use lib.ListN.{length, set, length-append}
use lib.Seq.{sets}
use Rattle.image.specs.Word.{le}
use Rattle.image.specs.Tree.{Label, Forest, none, node, Tree, size}
use Rattle.image.specs.Flat.{size_t, bytes_of, flat_any, flat}

-- two runs of stores, one after the other, are one run
pub sets_append : (l : List ℕ) (i : ℕ) (vs ws : List ℕ) → sets l i (vs ++ ws) ≡ sets (sets l i vs) (i + length vs) ws
sets_append l i [] ws = rw add-zero
sets_append l i (v ∷ vs) ws = sets_append (set l i v) (suc i) vs ws ∙ rw (add-suc, suc-add)

-- the same, by the place where the first ends
pub sets_after : (l : List ℕ) (i : ℕ) (vs ws : List ℕ) (j : ℕ) → i + length vs ≡ j → sets l i (vs ++ ws) ≡ sets (sets l i vs) j ws
sets_after l i vs ws j e = sets_append l i vs ws ∙ rw e

-- a word has 4 bytes
pub le_length : (v : ℕ) → length (le v) ≡ 4
unfolding le
le_length v = refl

-- a record has 32 bytes
pub bytes_of_length : (l : Label) (a b : ℕ) → length (bytes_of l a b) ≡ 32
unfolding bytes_of le
bytes_of_length l a b = refl

-- a flat forest has 32 bytes for each record
pub flat_any_length : (d : ℕ) (f : Forest) → length (flat_any d f) ≡ 32 * size f
flat_any_length d none = refl
flat_any_length d (node l cs ns) =
    simp (length-append, bytes_of_length) (omega (arith, flat_any_length (d + 1) cs, flat_any_length d ns))

-- a flat tree has 32 bytes for each record
pub flat_length : (d : ℕ) (t : Tree) → length (flat d t) ≡ 32 * size_t t
flat_length d t = simp (length-append, bytes_of_length) (omega (arith, flat_any_length (d + 1) t.below))
