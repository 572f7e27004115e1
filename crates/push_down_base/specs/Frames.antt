-- A plan as a frame around its last child, which is its input: its records are the plan's own, and then the input's, one deeper.
use Rattle.std.specs.Prelude.{ℕ, ◌+◌, ◌≡◌, List, ◌++◌, length}
use Rattle.image.specs.Records.{Rec, recs}
use Rattle.plan.specs.Syntax.{Plan}
use Rattle.plan.specs.Trees.{plan_tree}

-- f has k records of its own before its input
pub record Frame (f : Plan → Plan) (k : ℕ) : Type 0 where
  pub own : ℕ → List Rec
  pub count : (d : ℕ) → k ≡ length (own d)
  pub is : (d : ℕ) (p : Plan) → recs d (plan_tree (f p)) ≡ own d ++ recs (d + 1) (plan_tree p)
