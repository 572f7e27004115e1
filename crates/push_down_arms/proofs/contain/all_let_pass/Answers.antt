use mathlib.Core.Path.{sym, ap, ◌∙◌}
use Rattle.image.specs.Subtrees.{forest}
use Rattle.image.proofs.Subtrees.{goes, gone}
use Rattle.utils.specs.Fields.{named}
use Rattle.push_down_arms.specs.Movable.{lets_all}
use Rattle.push_down_arms.proofs.Moves.{lets_here, lets_next, lets_none}
use Rattle.push_down_arms.proofs.contain.all_let_pass.Goals as goal

pub loop-part-init : goal.loop-part-init
loop-part-init g c =
    let e = ap forest c.into_iter-part-iterator.ensures.into_iter_gives ∙ c.children-part-items.ensures.is in
    ap (lets_all (named c.args.c)) (sym e)

pub returns-then-not-lets_pass : goal.returns-then-not-lets_pass
returns-then-not-lets_pass g c =
    let w = goes c.loop-part.part-iterator c.next.new.self c.in-Some.part c.in-Some.ensures.steps in
    sym (c.loop-part.invariant ∙ lets_here (named c.args.c) w.is (sym c.lets_pass.ensures ∙ c.if-not-lets_pass.true))

pub loop-part-preserved : goal.loop-part-preserved
loop-part-preserved g c =
    let w = goes c.loop-part.part-iterator c.next.new.self c.in-Some.part c.in-Some.ensures.steps in
    c.loop-part.invariant ∙ lets_next (named c.args.c) w.is (sym c.lets_pass.ensures ∙ c.if-not-lets_pass.false)

pub returns : goal.returns
returns g c = sym (c.loop-part.invariant ∙ lets_none (named c.args.c) (gone c.loop-part.part-iterator c.in-None.ensures.steps.0))
