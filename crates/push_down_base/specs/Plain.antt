-- Conjuncts that do not split.
use Rattle.std.specs.Prelude.{◌≡◌, List, [], ◌∷◌}
use Rattle.plan.specs.Syntax.{Expr}
use Rattle.plan.specs.Lists.{All}
use Rattle.rewrite.specs.Utils.{split_conjunction}

-- it does not split
pub record Whole (e : Expr) : Type 0 where
  pub one : split_conjunction e ≡ e ∷ []

-- none of a list does
abbrev pub Plain : List Expr → Type 0
Plain es = All Whole es
