-- Where the tree at a record ends.
-- Assumes nothing.
use mathlib.Core.Path.{◌≡◌, ap, ◌∙◌}
use mathlib.Core.List.{List}
use Prim.Native.Nat.{ℕ, ◌+◌, ◌*◌}
use native.Mathlib.Omega.{arith}
use lib.ListN.{drop}
use Rattle.image.specs.Tree.{Tree, At}
use Rattle.image.specs.Flat.{size_t}
use Rattle.image.specs.Subtrees.{Subtree, tree_of}
use Rattle.image.proofs.Subtrees.{tree_is}

-- x is the tree t at record n, and r is the record behind it
pub end_of : (x : Subtree) {s : List ℕ} {n r : ℕ} (t : Tree) → At t (drop (32 * n) s) n → x.image.now ≡ s → x.number ≡ n
    → r ≡ x.number + size_t (tree_of x) → r ≡ n + size_t t
end_of x t h es en e = let same = ap size_t (tree_is x t es en h) in omega (arith, e, en, same)

-- of the whole image: how many records it has
pub records_of : (x : Subtree) {s : List ℕ} {r : ℕ} (t : Tree) → At t s 0 → x.image.now ≡ s → x.number ≡ 0
    → r ≡ x.number + size_t (tree_of x) → r ≡ size_t t
records_of x t h es en e = omega (arith, end_of x {n = 0} t h es en e)
