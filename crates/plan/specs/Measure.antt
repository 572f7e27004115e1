-- How large a plan is: measures of the tree of its records.
use Rattle.std.specs.Prelude.{ℕ, suc, ◌+◌, max as larger, List, [], ◌∷◌}
use Rattle.image.specs.Tree.{Forest, none, node, Tree, size}
use Rattle.image.specs.Flat.{size_t}
use Rattle.plan.specs.Syntax.{Expr, Plan}
use Rattle.plan.specs.Trees.{expr_tree, plan_tree}

-- how many levels a forest has
unfoldable pub depth : Forest → ℕ
depth none = 0
depth (node l cs ns) = larger (suc (depth cs)) (depth ns)

-- the root is 1 deep
abbrev pub depth_t : Tree → ℕ
depth_t t = suc (depth t.below)

-- the records of an expression, and of a plan
unfoldable pub size_e : Expr → ℕ
size_e e = size_t (expr_tree e)

unfoldable pub size_p : Plan → ℕ
size_p p = size_t (plan_tree p)

-- the records of a run of parts, each with what hangs below it
unfoldable pub sizes : {A : Type 0} → (A → Forest) → List A → ℕ
sizes below [] = 0
sizes below (x ∷ xs) = suc (size (below x)) + sizes below xs

unfoldable pub depth_p : Plan → ℕ
depth_p p = depth_t (plan_tree p)
