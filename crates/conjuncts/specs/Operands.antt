-- The operands of an And, as the code finds them.
use Rattle.std.specs.Prelude.{◌≡◌, true, false, ℕ, Option, None, Some, ◌+◌}
use Rattle.image.specs.Tree.{none, node, size}
use Rattle.image.specs.Places.{start}
use Rattle.image.specs.Subtrees.{tree_of}
use Rattle.image.specs.declared.trees.Stretch.{Stretch}
use Rattle.conjuncts.specs.Labels.{is_and}

-- l and r are the trees below t
pub record Operands {N : ℕ} (t l r : Stretch N) : Type 0 where
  pub below : (tree_of t).below ≡ node (tree_of l).label (tree_of l).below (node (tree_of r).label (tree_of r).below none)
  pub left : l.number ≡ t.number + 1
  pub right : r.number ≡ t.number + 1 + 1 + size (tree_of l).below
  pub left_image : l.image.now ≡ t.image.now
  pub right_image : r.image.now ≡ t.image.now
  pub left_base : start N l.base ≡ start N t.base
  pub right_base : start N r.base ≡ start N t.base

-- t is no And, or these are its operands
abbrev pub IsAnd : {N : ℕ} → Stretch N → Option (Stretch N × Stretch N) → Type 0
IsAnd t None = is_and (tree_of t).label ≡ false
IsAnd t (Some p) = (is_and (tree_of t).label ≡ true) × Operands t p.0 p.1
