-- `simplify_predicates::next_column` meets its contract. The loop's invariant: the first column so far is that of the list from i on.
use mathlib.Core.Path.{◌≡◌}
use mathlib.Core.List.{List}
use lib.ListN.{drop}
use Rattle.plan.specs.Syntax.{Expr}
use Rattle.conjuncts.specs.Items.{Lists}
use Rattle.simplify_expressions.specs.Classes.{key_of, least}
use Rattle.simplify_expressions.proofs.simplify_predicates.next_column.Given as goal

abbrev pub invariant-loop-i : goal.invariant-loop-i
invariant-loop-i l = (es : List Expr) → Lists l.s l.c es → key_of l.best ≡ least (key_of l.last) (drop l.i es)
