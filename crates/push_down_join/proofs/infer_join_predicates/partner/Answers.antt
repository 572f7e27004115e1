use mathlib.Core.Path.{sym, ap, ◌∙◌}
use Rattle.image.specs.Subtrees.{forest}
use Rattle.image.proofs.Subtrees.{goes, gone}
use Rattle.utils.specs.Fields.{named}
use Rattle.push_down_join.specs.Partners.{partner_in}
use Rattle.push_down_join.proofs.Partnering.{partner_stop, partner_step}
use Rattle.push_down_join.proofs.infer_join_predicates.partner.Goals as goal

pub loop-child-init : goal.loop-child-init
loop-child-init g c =
    let e = ap forest c.into_iter-child-iterator.ensures.into_iter_gives ∙ c.children-child-items.ensures.is in
    sym (ap (partner_in (named c.args.x)) e)

pub returns-then-is_some : goal.returns-then-is_some
returns-then-is_some g c =
    let g = goes c.loop-child.child-iterator c.next.new.self c.in-Some.child c.in-Some.ensures.steps in
    partner_stop _ _ _ _ _ c.partner_in-found.ensures (sym c.is_some.ensures ∙ c.if-is_some.true)
    ∙ sym (c.loop-child.invariant ∙ ap (partner_in (named c.args.x)) g.is)

pub loop-child-preserved : goal.loop-child-preserved
loop-child-preserved g c =
    let g = goes c.loop-child.child-iterator c.next.new.self c.in-Some.child c.in-Some.ensures.steps in
    c.loop-child.invariant ∙ ap (partner_in (named c.args.x)) g.is
    ∙ partner_step _ _ _ _ _ c.partner_in-found.ensures (sym c.is_some.ensures ∙ c.if-is_some.false)

pub returns : goal.returns
unfolding partner_in
returns g c =
    sym (c.loop-child.invariant ∙ ap (partner_in (named c.args.x)) (gone c.loop-child.child-iterator c.in-None.ensures.steps.0))
