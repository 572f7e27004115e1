-- The fields of a plan, read off its records.
use Rattle.std.specs.Prelude.{◌≡◌, Bool, cond, Option, Some, None, List, [], map, ℕ}
use Rattle.image.specs.Tree.{Label, Forest, none, node, Tree}
use Rattle.plan.specs.FieldSources.{makes}
use Rattle.plan.specs.Kinds.{what}
use Rattle.plan.specs.Lists.{put}
use Rattle.plan.specs.Schema.{requalify}
use Rattle.plan.specs.Syntax.{Name, nm, Plan}
use Rattle.plan.specs.Trees.{plan_tree}

-- the qualifier that the fields of an input get, if they get one: of two aliases the upper one's
abbrev pub below : Bool → ℕ → Option ℕ → Option ℕ
below renamed p (Some q) = Some q
below renamed p None = cond renamed (Some p) None

-- names with this qualifier, or as they are
abbrev pub called : Option ℕ → List Name → List Name
called (Some q) ns = map (requalify q) ns
called None ns = ns

-- the field that a part makes
unfoldable pub called_label : Label → List Name
called_label l = put (makes (what l)) (nm l.p l.q) []

-- the fields that the parts of a forest make
unfoldable pub made : Forest → List Name
made none = []
made (node l cs ns) = put (makes (what l)) (nm l.p l.q) (made ns)

-- the tree is some plan's
pub record IsPlan (t : Tree) : Type 0 where
  pub plan : Plan
  pub is : t ≡ plan_tree plan
