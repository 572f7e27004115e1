-- `simplify_predicates::first_kind` meets its contract. The loop's invariant: the kind of all is that of the rest.
use mathlib.Core.Path.{◌≡◌}
use mathlib.Core.List.{List, map}
use lib.ListN.{drop}
use Rattle.plan.specs.Syntax.{Expr}
use Rattle.rewrite.specs.SimplifyPredicates.{first_kind}
use Rattle.conjuncts.specs.Items.{Lists}
use Rattle.simplify_expressions.specs.Seen.{side_in}
use Rattle.simplify_expressions.proofs.simplify_predicates.first_kind.Given as goal

abbrev pub invariant-loop-i : goal.invariant-loop-i
invariant-loop-i l = (es : List Expr) → Lists l.s l.c es → first_kind (map side_in es) ≡ first_kind (map side_in (drop l.i es))
