use mathlib.Core.Path.{◌≡◌}
use mathlib.Core.Option.{some}
use native.Mathlib.Omega.{arith}
use Rattle.conjuncts.proofs.Listed.{lists_length}
use Rattle.simplify_expressions.specs.Classes.{key_of}
use Rattle.simplify_expressions.specs.Seen.{named}
use Rattle.simplify_expressions.proofs.Simplified.{one_simplified, going_start, going_next, going_end, going_zero}
use Rattle.simplify_expressions.proofs.simplify_predicates.simplify_predicates.Goals as goal

pub returns-then-c-le1 : goal.returns-then-c-le1
returns-then-c-le1 c =
    λ es h. rw (one_simplified es (omega (arith, lists_length h c.requires.most, c.if-c-le1.true))) h

pub loop-left-init : goal.loop-left-init
loop-left-init c =
    λ es h. going_start es (c.other_predicates-r.ensures es h) (c.next_column-key.ensures es h)
    (omega (arith, lists_length h c.requires.most))

pub returns-in_default : goal.returns-in_default
returns-in_default c =
    λ es h. going_end es (c.loop-left.invariant es h) (rw c.in_default.is)

pub loop-left-preserved : goal.loop-left-preserved
loop-left-preserved c =
    λ es h. let k = c.loop-left.invariant es h in
    let x = c.in-Some.column in
    let t : key_of c.loop-left.key ≡ some (named x) = rw c.in-Some.is in
    going_next es x.q x.n k (omega arith) t (c.simplify_column_predicates-r.ensures es _ h k.lists) (c.next_column-key-in-loop-left.ensures es h)

pub returns : goal.returns
returns c =
    λ es h. going_zero es (c.loop-left.invariant es h) (omega (arith, c.loop-left-test.false))
