use mathlib.Core.Path.{sym, ◌∙◌}
use mathlib.Core.Bool.{true, false}
use Rattle.plan.specs.Lists.{any}
use Rattle.rewrite.specs.Utils.{same_e}
use Rattle.conjuncts.proofs.Listed.{any_next, walk_end, walk_in, walk_item}
use Rattle.conjuncts.proofs.unique.contains.Goals as goal

pub same_item-requires-clause-present : goal.same_item-requires-clause-present
same_item-requires-clause-present c =
    let p = c.requires.known in
    record { expr = _; item = walk_item p.lists p.most c.items-y-items.ensures _ _ c.loop-y-test.true c.from.ensures }

pub returns-then-same_item : goal.returns-then-same_item
unfolding any
returns-then-same_item c =
    λ es e h k. let p = c.requires.known in
    let is = c.items-y-items.ensures in
    let i = c.loop-y.y-index in
    sym (c.loop-y.invariant es e h k
    ∙ any_next (λ x. same_e x e) es i (walk_in h p.most is c.loop-y-test.true) true
    (sym (c.same_item.ensures _ e (walk_item h p.most is i _ c.loop-y-test.true c.from.ensures) k) ∙ c.if-same_item.true))

pub loop-y-preserved : goal.loop-y-preserved
unfolding any
loop-y-preserved c =
    λ es e h k. let p = c.requires.known in
    let is = c.items-y-items.ensures in
    let i = c.loop-y.y-index in
    c.loop-y.invariant es e h k
    ∙ any_next (λ x. same_e x e) es i (walk_in h p.most is c.loop-y-test.true) false
    (sym (c.same_item.ensures _ e (walk_item h p.most is i _ c.loop-y-test.true c.from.ensures) k) ∙ c.if-same_item.false)

pub returns : goal.returns
unfolding any
returns c =
    λ es e h k. sym (c.loop-y.invariant es e h k ∙ rw (walk_end h c.requires.known.most c.items-y-items.ensures c.loop-y-test.false))
