-- Records written over trees are expressions and plans.
-- Assumes nothing.
use mathlib.Core.Path.{◌≡◌, refl}
use mathlib.Core.Bool.{false}
use mathlib.Core.List.{List, [], ◌∷◌}
use Prim.Native.Nat.{ℕ, ◌+◌}
use lib.ListN.{length}
use Rattle.image.specs.Limits.{work_bytes}
use Rattle.image.specs.Tree.{Label}
use Rattle.image.specs.Room.{Put, Wrote}
use Rattle.image.proofs.Room.{wrote_leaf, wrote_two}
use Rattle.plan.specs.Syntax.{Expr, bool, bin, and, Plan, filter}
use Rattle.plan.specs.Trees.{label_e, kids_e, expr_tree, label_p, kids_p, plan_tree}
use Rattle.rewrite.specs.Utils.{conjoin, with_filters}

-- a record of this kind, with the word p and no other
abbrev pub kind_label : ℕ → ℕ → Label
kind_label k p = record { kind = k; p = p; q = 0; r = 0; lo = 0; hi = 0 }

module _ {out₀ out₁ : List ℕ} {at at₁ level : ℕ} (long : length out₀ ≡ work_bytes) where
  -- FALSE
  pub wrote_false : Put out₀ out₁ at level at₁ (kind_label 3 0) → Wrote out₀ out₁ at level at₁ (expr_tree (bool false))
  unfolding label_e kids_e
  wrote_false p = wrote_leaf long p

  -- an AND over two expressions
  pub wrote_and : {out₂ out₃ : List ℕ} {n₂ n₃ : ℕ} (a b : Expr) → Put out₀ out₁ at level at₁ (kind_label 5 1)
      → Wrote out₁ out₂ at₁ (level + 1) n₂ (expr_tree a) → Wrote out₂ out₃ n₂ (level + 1) n₃ (expr_tree b)
      → Wrote out₀ out₃ at level n₃ (expr_tree (bin and a b))
  unfolding label_e kids_e
  wrote_and a b p w v = wrote_two long p {t = expr_tree a} {u = expr_tree b} w v

  -- a Filter over a predicate and a plan
  pub wrote_filter : {out₂ out₃ : List ℕ} {n₂ n₃ : ℕ} (e : Expr) (p : Plan) → Put out₀ out₁ at level at₁ (kind_label 33 0)
      → Wrote out₁ out₂ at₁ (level + 1) n₂ (expr_tree e) → Wrote out₂ out₃ n₂ (level + 1) n₃ (plan_tree p)
      → Wrote out₀ out₃ at level n₃ (plan_tree (filter e p))
  unfolding label_p kids_p
  wrote_filter e p h w v = wrote_two long h {t = expr_tree e} {u = plan_tree p} w v

  -- a plan under a Filter of a list that is not empty
  pub wrote_filtered : {out₂ out₃ : List ℕ} {n₂ n₃ : ℕ} (es : List Expr) (p : Plan) → (length es ≡ 0 → ⊥)
      → Put out₀ out₁ at level at₁ (kind_label 33 0)
      → ((e : Expr) (rest : List Expr) → es ≡ e ∷ rest → Wrote out₁ out₂ at₁ (level + 1) n₂ (expr_tree (conjoin e rest)))
      → Wrote out₂ out₃ n₂ (level + 1) n₃ (plan_tree p)
      → Wrote out₀ out₃ at level n₃ (plan_tree (with_filters es p))
  unfolding with_filters
  wrote_filtered [] p nz h w v = absurd (nz refl)
  wrote_filtered (e ∷ es) p nz h w v = wrote_filter (conjoin e es) p h (w e es refl) v
