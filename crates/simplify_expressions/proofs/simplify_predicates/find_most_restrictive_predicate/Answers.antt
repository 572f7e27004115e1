use mathlib.Core.Path.{sym, ap, ◌∙◌}
use mathlib.Core.List.{List, map}
use Prim.Native.Nat.{◌+◌}
use native.Mathlib.Omega.{arith}
use lib.ListN.{drop}
use Rattle.plan.specs.Syntax.{Expr}
use Rattle.rewrite.specs.SimplifyPredicates.{Side, find_most_restrictive_predicate}
use Rattle.conjuncts.proofs.Listed.{lists_length, at_end}
use Rattle.simplify_expressions.specs.Seen.{side_in, past_of}
use Rattle.simplify_expressions.proofs.Sides.{best_next, better_new, better_old}
use Rattle.simplify_expressions.proofs.simplify_predicates.find_most_restrictive_predicate.Goals.{then-is_better, else-is_better}
use Rattle.simplify_expressions.proofs.simplify_predicates.find_most_restrictive_predicate.Goals as goal

pub loop-i-preserved : goal.loop-i-preserved
loop-i-preserved c =
    let i = c.loop-i.i in
    let past = past_of c.args.end in
    let found = λ (es : List Expr) (d : Side). find_most_restrictive_predicate past d (map side_in (drop (i + 1) es)) in
    elim c.if-is_better.branch [
      | then-is_better w ↦ (
        rw w.best-is (omega arith),
        λ es h. c.loop-i.invariant.1 es h
            ∙ (best_next past _ es i (omega (arith, lists_length h c.requires.known.most, c.loop-i-test.true))
            ∙ (ap (found es) (better_new past es c.loop-i.best i c.is_better.ensures
            (c.side_at.ensures.is es h) (c.side_at-in-loop-i.ensures.is es h) w.if-is_better.true)
            ∙ rw w.best-is)),
      )
      | else-is_better w ↦ (
        rw w.best-is c.loop-i.invariant.0,
        λ es h. c.loop-i.invariant.1 es h
            ∙ (best_next past _ es i (omega (arith, lists_length h c.requires.known.most, c.loop-i-test.true))
            ∙ (ap (found es) (better_old past es c.loop-i.best i c.is_better.ensures
            (c.side_at.ensures.is es h) (c.side_at-in-loop-i.ensures.is es h) w.if-is_better.false)
            ∙ rw w.best-is)),
      )
    ]

pub returns : goal.returns
returns c = (
  c.loop-i.invariant.0,
  λ es h. sym (c.loop-i.invariant.1 es h
      ∙ rw (at_end es c.loop-i.i (omega (arith, lists_length h c.requires.known.most, c.loop-i-test.false)))),
)
