use native.Mathlib.Omega.{arith}
use Rattle.conjuncts.proofs.Listed.{lists_at, lists_length}
use Rattle.conjuncts.proofs.Kept.{kept_start, kept_next, kept_end}
use Rattle.simplify_expressions.proofs.reorder_predicates.pick.Goals as goal

pub loop-i-init : goal.loop-i-init
loop-i-init g c = λ s es fs p h k t. kept_start p es k

pub add_if-r-requires : goal.add_if-r-requires
add_if-r-requires g c =
    let p = c.requires.known.1 in
    (lists_at p.lists p.most _ _ c.loop-i-test.true c.item_at.ensures).small

pub loop-i-preserved : goal.loop-i-preserved
loop-i-preserved g c =
    λ s es fs p h k t. let q = c.requires.known.1 in
    let i = c.loop-i.i in
    kept_next p es i (c.loop-i.invariant s es fs p h k t)
    (omega (arith, lists_length h q.most, c.loop-i-test.true)) _
    (t i _ c.loop-i-test.true c.test.ensures)
    (lists_at h q.most i _ c.loop-i-test.true c.item_at.ensures) c.add_if-r.ensures

pub returns : goal.returns
returns g c =
    λ s es fs p h k t. kept_end p es c.loop-i.i (c.loop-i.invariant s es fs p h k t)
    (omega (arith, lists_length h c.requires.known.1.most, c.loop-i-test.false))
