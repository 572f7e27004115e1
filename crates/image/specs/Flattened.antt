-- A flat tree at the start of a buffer.
use Rattle.std.specs.Prelude.{◌≡◌, List, ◌++◌, ℕ}
use Rattle.image.specs.Limits.{max_below}
use Rattle.image.specs.Tree.{Tree, Deep}
use Rattle.image.specs.Flat.{size_t, flat}

-- out begins with some tree of n records, flat from depth 1 on, and no deeper than an image may be
pub record Flattened (out : List ℕ) (n : ℕ) : Type 0 where
  pub tree : Tree
  pub rest : List ℕ
  pub deep : Deep tree.below max_below
  pub count : n ≡ size_t tree
  pub is : out ≡ flat 1 tree ++ rest
