-- A list without repeats, made by appending: `onto [] es` is `unique es` (proofs/Onto).
use Rattle.std.specs.Prelude.{Bool, not, List, [], ◌∷◌, ◌++◌}
use Rattle.plan.specs.Syntax.{Expr}
use Rattle.plan.specs.Lists.{put, any}
use Rattle.rewrite.specs.Utils.{same_e}

-- an equal expression is in the list
abbrev pub is_in : List Expr → Expr → Bool
is_in es e = any (λ x. same_e x e) es

-- fs, and then each of a list that is not there yet
unfoldable pub onto : List Expr → List Expr → List Expr
onto fs [] = fs
onto fs (e ∷ es) = onto (fs ++ put (not (is_in fs e)) e []) es
