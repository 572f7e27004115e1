-- A tree that an image holds, and no more.
use Rattle.std.specs.Prelude.{◌≡◌, suc, ◌*◌, length}
use Rattle.image.specs.Subtrees.{Subtree, tree_of}
use Rattle.image.specs.Tree.{size}

-- the image is the tree's records and no more
pub record Whole (root : Subtree) : Type 0 where
  pub first : root.number ≡ 0
  pub bytes : length root.image.now ≡ 32 * suc (size (tree_of root).below)
