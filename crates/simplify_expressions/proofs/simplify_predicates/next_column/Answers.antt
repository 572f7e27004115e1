use mathlib.Core.Path.{◌≡◌, ap, ◌∙◌}
use native.Mathlib.Omega.{arith}
use Rattle.conjuncts.proofs.Listed.{lists_length, at_end}
use Rattle.simplify_expressions.specs.Classes.{lesser, least}
use Rattle.simplify_expressions.proofs.Classed.{least_next}
use Rattle.simplify_expressions.proofs.simplify_predicates.next_column.Goals as goal

pub loop-i-init : goal.loop-i-init
unfolding least
loop-i-init c =
    λ es h. rw (at_end es c.args.c.len (omega (arith, lists_length h c.requires.most)))

pub loop-i-preserved : goal.loop-i-preserved
loop-i-preserved c =
    λ es h. c.first_of-best.ensures
    ∙ (ap (lesser _ _) (c.loop-i.invariant es h)
    ∙ least_next _ es c.loop-i.i (λ z. omega (arith, c.loop-i-test.true)) (omega (arith, lists_length h c.requires.most)) _ (c.compared_at.ensures es h))

pub returns : goal.returns
returns c =
    λ es h. let z : c.loop-i.i ≡ 0 = omega (arith, c.loop-i-test.false) in rw z at (c.loop-i.invariant es h)
