-- The last child of a record, and the first two.
use Rattle.std.specs.Prelude.{◌≡◌, ℕ, ◌+◌, Option, None, Some}
use Rattle.image.specs.Tree.{Forest, none, node, size}
use Rattle.image.specs.Places.{start}
use Rattle.image.specs.Subtrees.{Subtree, tree_of}
use Rattle.image.specs.declared.trees.Stretch.{Stretch}

-- the number of the last tree of a forest whose first record has the number b; d where there is none
abbrev pub last_of : ℕ → ℕ → Forest → ℕ
last_of d b none = d
last_of d b (node l cs ns) = last_of b (b + 1 + size cs) ns

-- u is the last child of t, or t itself where it has none
pub record Last (t u : Subtree) : Type 0 where
  pub image : u.image.now ≡ t.image.now
  pub number : u.number ≡ last_of t.number (t.number + 1) (tree_of t).below

-- t has no child, or its last one is that
abbrev pub LastOf : Subtree → Option Subtree → Type 0
LastOf t None = (tree_of t).below ≡ none
LastOf t (Some u) = ((tree_of t).below ≡ none → ⊥) × Last t u

-- a is the first child of t, and b the second
pub record Two {N : ℕ} (t a b : Stretch N) : Type 0 where
  pub others : Forest
  pub is : (tree_of t).below ≡ node (tree_of a).label (tree_of a).below (node (tree_of b).label (tree_of b).below others)
  pub first : a.number ≡ t.number + 1
  pub second : b.number ≡ t.number + 1 + 1 + size (tree_of a).below
  pub image_first : a.image.now ≡ t.image.now
  pub image_second : b.image.now ≡ t.image.now
  pub base_first : start N a.base ≡ start N t.base
  pub base_second : start N b.base ≡ start N t.base

-- a forest of fewer trees
abbrev pub Few : Forest → Type 0
Few none = Unit {0}
Few (node l cs none) = Unit {0}
Few (node l cs (node m ds ns)) = ⊥

-- there are fewer, or they are those
abbrev pub Firsts : {N : ℕ} → Stretch N → Option (Stretch N × Stretch N) → Type 0
Firsts t None = Few (tree_of t).below
Firsts t (Some p) = Two t p.0 p.1
