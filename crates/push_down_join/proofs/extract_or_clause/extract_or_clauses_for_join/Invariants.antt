-- The loop's invariant: the clauses of the conjuncts passed are appended.
use mathlib.Core.Path.{◌≡◌}
use mathlib.Core.Bool.{Bool, true}
use mathlib.Core.List.{List}
use Rattle.plan.specs.Columns.{on_cols}
use Rattle.plan.specs.Schema.{has}
use Rattle.plan.specs.Syntax.{Name, Expr}
use Rattle.plan.specs.Lists.{All}
use Rattle.conjuncts.specs.Items.{Lists}
use Rattle.utils.specs.Fields.{Names}
use Rattle.utils.specs.Masks.{Masks}
use Rattle.push_down_join.specs.Sides.{Sides}
use Rattle.push_down_join.proofs.Siding.{Clauses}
use Rattle.push_down_join.proofs.extract_or_clause.extract_or_clauses_for_join.Given as goal

abbrev pub invariant-loop-n : goal.invariant-loop-n
invariant-loop-n l =
    (σ : Name → Expr) (ns : List Name) (t : Name → Bool) (es fs : List Expr) → Sides l.s σ ns t l.initial.r es → Lists l.s l.fn.c fs
    → Names l.fields ns
    → All (λ e. on_cols (has ns) e ≡ true) fs → Masks l.side ns t → Clauses l.s σ ns t l.r es fs l.n-index
