-- `unique::contains` meets its contract. The loop's invariant: whether an equal one is listed is whether one is in the rest.
use mathlib.Core.Path.{◌≡◌}
use mathlib.Core.List.{List}
use lib.ListN.{drop}
use Rattle.plan.specs.Syntax.{Expr}
use Rattle.conjuncts.specs.Items.{Item, Lists}
use Rattle.conjuncts.specs.Onto.{is_in}
use Rattle.conjuncts.proofs.unique.contains.Given as goal

abbrev pub invariant-loop-y : goal.invariant-loop-y
invariant-loop-y l = (es : List Expr) (e : Expr) → Lists l.s l.fn.c es → Item l.s l.x e → is_in es e ≡ is_in (drop l.y-index es) e
