-- Trees of an image as the code has them: one tree, and some side by side.
use Rattle.std.specs.Prelude.{◌≡◌, List, [], ◌∷◌, ℕ, ◌+◌, ◌*◌, drop, Option, None, Some}
use Rattle.image.specs.Tree.{Forest, none, node, Tree, link, size}
use Rattle.image.specs.Places.{pos, start}
use Rattle.image.specs.declared.trees.Stretch.{Stretch}
use Rattle.image.specs.declared.trees.Stretches.{Stretches}

-- those of a whole image
abbrev pub Subtree : Type 0
Subtree = Stretch 0

abbrev pub Siblings : Type 0
Siblings = Stretches 0

-- the tree itself
abbrev pub tree_of : {N : ℕ} → Stretch N → Tree
tree_of t = t.stood.tree

-- the bytes from its top on
abbrev pub part_of : {N : ℕ} → Stretch N → List ℕ
part_of {N} t = drop (32 * pos N t.base t.number) t.image.now

-- the trees themselves
abbrev pub forest : {N : ℕ} → Stretches N → Forest
forest x = x.chained.forest

-- x are the trees below t
pub record Below {N : ℕ} (t : Stretch N) (x : Stretches N) : Type 0 where
  pub image : x.image.now ≡ t.image.now
  pub base : start N x.base ≡ start N t.base
  pub is : forest x ≡ (tree_of t).below
  pub first : x.first ≡ link (t.number + 1) (tree_of t).below

-- t is the first of the trees x, and y are the others
pub record Split {N : ℕ} (x : Stretches N) (t : Stretch N) (y : Stretches N) : Type 0 where
  pub is : forest x ≡ node (tree_of t).label (tree_of t).below (forest y)
  pub number : t.number ≡ x.first
  pub next : y.first ≡ link (x.first + 1 + size (tree_of t).below) (forest y)
  pub image : t.image.now ≡ x.image.now
  pub base : start N t.base ≡ start N x.base
  pub others : y.image.now ≡ x.image.now
  pub others_base : start N y.base ≡ start N x.base

-- there is none, or it is that
abbrev pub Splits : {N : ℕ} → Stretches N → Option (Stretch N × Stretches N) → Type 0
Splits x None = forest x ≡ none
Splits x (Some p) = Split x p.0 p.1

-- ---- the trees of some siblings, first to last

-- a tree and where it is: the image, where that begins, and the number of its top
pub record Place : Type 0 where
  pub image : List ℕ
  pub base : ℕ
  pub number : ℕ
  pub tree : Tree

abbrev pub place : {N : ℕ} → Stretch N → Place
place {N} t = record { image = t.image.now; base = start N t.base; number = t.number; tree = tree_of t }

-- the trees of a forest whose first record has the number n
unfoldable pub places_from : List ℕ → ℕ → ℕ → Forest → List Place
places_from s b n none = []
places_from s b n (node l cs ns) =
    record { image = s; base = b; number = n; tree = record { label = l; below = cs } } ∷ places_from s b (n + 1 + size cs) ns

abbrev pub places : {N : ℕ} → Stretches N → List Place
places {N} x = places_from x.image.now (start N x.base) x.first (forest x)
