-- Plans that a rewrite leaves as they are.
use Rattle.std.specs.Prelude.{◌≡◌, Bool, true, false, not, ◌&&◌, ◌||◌, [], eqb}
use Rattle.image.specs.Tree.{Label}
use Rattle.plan.specs.Kinds.{number_p, TableScan, Projection, Aggregate, Window, Join}
use Rattle.plan.specs.Syntax.{Plan, inner}
use Rattle.plan.specs.Trees.{join_number}
use Rattle.rewrite.specs.PushDownFilter.{Transformed, transformed_no, rewrite, merges}
use Rattle.push_down_arms.specs.Through.{takes_none}

-- b says whether what became of p is p; then no flag is raised
pub record Kept (b : Bool) (t : Transformed) (p : Plan) : Type 0 where
  pub yes : b ≡ true → t ≡ transformed_no p
  pub no : b ≡ false → t.plan ≡ p → ⊥

-- b says whether the plan p stays as it is; then no Filters are merged
pub record Stays (b : Bool) (p : Plan) : Type 0 where
  pub kept : Kept b (rewrite p) p
  pub unmerged : b ≡ true → merges p ≡ []

-- the plans over which a Filter stays if nothing of it moves: TableScan, Projection, Aggregate, Window, a join that is not Inner, and those
-- that take none; it merges with a Filter, and goes below any other
abbrev pub may_stay : Label → Bool
may_stay l =
    (((eqb l.kind (number_p TableScan) || eqb l.kind (number_p Projection))
    || (eqb l.kind (number_p Aggregate) || eqb l.kind (number_p Window)))
    || (eqb l.kind (number_p Join) && not (eqb l.p (join_number inner))))
    || takes_none l
