-- `simplify_predicates::find_most_restrictive_predicate` meets its contract.
-- The loop's invariant: the most restrictive of all is that of the best so far and the rest.
use mathlib.Core.Path.{◌≡◌}
use mathlib.Core.List.{List, map}
use Prim.Native.Nat.{◌<◌}
use lib.ListN.{get_or, drop}
use Rattle.plan.specs.Syntax.{Expr}
use Rattle.conjuncts.specs.Items.{FALSE, Lists}
use Rattle.rewrite.specs.SimplifyPredicates.{find_most_restrictive_predicate}
use Rattle.simplify_expressions.specs.Seen.{side_in, past_of}
use Rattle.simplify_expressions.proofs.simplify_predicates.find_most_restrictive_predicate.Given as goal

abbrev pub invariant-loop-i : goal.invariant-loop-i
invariant-loop-i l =
    (l.best < l.c.len) × ((es : List Expr) → Lists l.s l.c es →
    find_most_restrictive_predicate (past_of l.end) (side_in (get_or es 0 FALSE)) (map side_in (drop 1 es)) ≡ find_most_restrictive_predicate
    (past_of l.end) (side_in (get_or es l.best FALSE)) (map side_in (drop l.i es)))
