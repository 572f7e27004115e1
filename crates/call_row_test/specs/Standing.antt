-- Plans of an accepted image, and where they stand.
use Rattle.std.specs.Prelude.{◌≡◌, true, List, ℕ, ◌*◌, length, Option, None, Some}
use Rattle.image.specs.Limits.{max_below, record_bytes}
use Rattle.image.specs.Subtrees.{Subtree, tree_of}
use Rattle.image.specs.Tree.{At, Deep}
use Rattle.plan.specs.Integers.{FitsP}
use Rattle.plan.specs.Measure.{size_p}
use Rattle.plan.specs.Syntax.{Expr, Plan, filter}
use Rattle.plan.specs.Trees.{expr_tree, kids_p, plan_tree}
use Rattle.acceptance.specs.NamesRule.{names_rule}
use Rattle.rewrite.specs.OnBytes.{plan_in}

-- what holds of every plan in a well-formed one
pub record Sound (p : Plan) : Type 0 where
  pub deep : Deep (kids_p p) max_below
  pub fits : FitsP p
  pub names : names_rule p ≡ true

-- the plan in the bytes s stands there, and they are its records
pub record Whole (s : List ℕ) : Type 0 where
  pub sound : Sound (plan_in s)
  pub stands : At (plan_tree (plan_in s)) s 0
  pub bytes : length s ≡ record_bytes * size_p (plan_in s)

-- x is the Filter of e over p
pub record FilterHere (x : Subtree) (e : Expr) (p : Plan) : Type 0 where
  pub is : tree_of x ≡ plan_tree (filter e p)
  pub sound : Sound (filter e p)

-- a Filter of e over p has those two parts
abbrev pub Parts : Expr → Plan → Option (Subtree × Subtree) → Type 0
Parts e p None = ⊥
Parts e p (Some x) = (tree_of x.0 ≡ expr_tree e) × (tree_of x.1 ≡ plan_tree p)
