-- The first two children of a tree.
--     two_are                   which trees they are
--     low_first, low_second     where they may be written
-- Assumes nothing.
use mathlib.Core.Path.{◌≡◌, sym, ap, ◌∙◌}
use Prim.Native.Nat.{ℕ, ◌+◌, ◌-◌}
use native.Mathlib.Omega.{arith}
use Rattle.image.specs.Tree.{Label, Forest, node, Tree}
use Rattle.image.specs.Room.{Low}
use Rattle.image.specs.Subtrees.{tree_of}
use Rattle.image.specs.declared.trees.Stretch.{Stretch}
use Rattle.image.proofs.Room.{low_below, low_after}
use Rattle.push_down_base.specs.Inputs.{Two}

module _ {N : ℕ} {t a b : Stretch N} (w : Two t a b) where
  pub two_are : {u v : Tree} {ns : Forest} → (tree_of t).below ≡ node u.label u.below (node v.label v.below ns)
      → (tree_of a ≡ u) × (tree_of b ≡ v)
  two_are e =
      let both = sym w.is ∙ e in (
        ap (λ (x : Label × Forest). record { label = x.0; below = x.1 }) (cc both),
        ap (λ (x : Label × Forest). record { label = x.0; below = x.1 }) (cc both),
      )

  module _ {level : ℕ} (h : Low level (tree_of t).below) where
    pub low_first : Low (level + 1) (tree_of a).below
    low_first = low_below w.is h

    pub low_second : Low (level + 1) (tree_of b).below
    low_second = let rest = low_after w.is h in record { depth = rest.depth - 1; deep = rest.deep.1; low = omega (arith, rest.low, rest.deep.0) }
