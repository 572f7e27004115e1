-- `push_some::is_over` meets its contract. The loop's invariant: what is counted, and then the rest, is all.
use mathlib.Core.List.{List}
use Rattle.plan.specs.Syntax.{Expr, Plan}
use Rattle.conjuncts.specs.Items.{Lists}
use Rattle.conjuncts.specs.Standing.{StandingP}
use Rattle.writing.specs.Maps.{map_of}
use Rattle.push_down_arms.specs.Divided.{Singles}
use Rattle.push_down_arms.proofs.Counting.{Counted}
use Rattle.push_down_arms.proofs.push_some.is_over.Given as goal

abbrev pub invariant-loop-n : goal.invariant-loop-n
invariant-loop-n l =
    (es : List Expr) (p : Plan) → Lists l.plan.image.now l.fn.c es → Singles es → StandingP l.plan.image.now l.plan.number p
    → Counted l.plan.image.now l.r (map_of p) es l.n-index
