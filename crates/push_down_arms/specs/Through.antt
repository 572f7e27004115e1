-- The plans that a Filter passes, or stays above, as it is: Distinct, Sort, Repartition, Limit.
use Rattle.std.specs.Prelude.{◌≡◌, Bool, true, false, ◌&&◌, ◌||◌, List, ℕ, eqb}
use Rattle.image.specs.Tree.{Label}
use Rattle.plan.specs.Kinds.{number_p, Limit, Sort}
use Rattle.plan.specs.Syntax.{Expr, Plan, scan, filter, project, join, alias, union, distinct, sort, repartition, limit, aggregate, window}
use Rattle.plan.specs.Trees.{has_fetch}
use Rattle.push_down_base.specs.Predicates.{Predicate}
use Rattle.push_down_base.specs.Arms.{Rests}

-- it is one of these
abbrev pub through : Plan → Bool
through (scan t fs es) = false
through (filter e p) = false
through (project es p) = false
through (join k l r on f) = false
through (alias q p) = false
through (union ps) = false
through (distinct p) = true
through (sort f ks p) = true
through (repartition p) = true
through (limit n k p) = true
through (aggregate gs ags p) = false
through (window ws p) = false

-- of these a Limit and a Sort with a fetch take no Filter
abbrev pub takes_none : Label → Bool
takes_none l = eqb l.kind (number_p Limit) || (eqb l.kind (number_p Sort) && has_fetch l.p)

-- some predicate rests on one
pub record OverThrough (s : List ℕ) (x : ℕ) (p : Predicate) : Type 0 where
  pub expr : Expr
  pub plan : Plan
  pub rests : Rests s x p expr plan
  pub is : through plan ≡ true
