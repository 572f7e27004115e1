-- Where expressions and plans stand in the bytes of an image. Record numbers are counted from the image's start.
use Rattle.std.specs.Prelude.{◌≡◌, List, ℕ, ◌*◌, ◌≤◌, ◌<◌, length, drop}
use Rattle.image.specs.Limits.{max_below, max_records}
use Rattle.image.specs.Tree.{At, Deep, Tree}
use Rattle.plan.specs.Syntax.{Expr, Plan}
use Rattle.plan.specs.Integers.{FitsE, FitsP}
use Rattle.plan.specs.Trees.{expr_tree, kids_e, plan_tree, kids_p}

-- e stands at record n of the image s
pub record Standing (s : List ℕ) (n : ℕ) (e : Expr) : Type 0 where
  pub within : 32 * n ≤ length s
  pub here : At (expr_tree e) (drop (32 * n) s) n
  pub deep : Deep (kids_e e) max_below
  pub fits : FitsE e
  pub small : n < max_records

-- p stands at record n of the image s
pub record StandingP (s : List ℕ) (n : ℕ) (p : Plan) : Type 0 where
  pub within : 32 * n ≤ length s
  pub here : At (plan_tree p) (drop (32 * n) s) n
  pub deep : Deep (kids_p p) max_below
  pub fits : FitsP p
  pub small : n < max_records

-- the tree is some expression's
pub record IsExpr (t : Tree) : Type 0 where
  pub expr : Expr
  pub is : t ≡ expr_tree expr

-- some expression stands at record n
pub record There (s : List ℕ) (n : ℕ) : Type 0 where
  pub expr : Expr
  pub standing : Standing s n expr
