use mathlib.Core.Path.{ap, ◌∙◌}
use Rattle.image.specs.Subtrees.{tree_of}
use Rattle.push_down_arms.specs.Movable.{may_move}
use Rattle.push_down_base.proofs.Masking.{masks_start, masks_step, masks_end, field_in, field_met, fields_past}
use Rattle.push_down_arms.proofs.contain.movable.Goals as goal

pub loop-i-init : goal.loop-i-init
loop-i-init g c = λ ns k. rw c.empty-set.ensures (masks_start ns _)

pub loop-i-preserved : goal.loop-i-preserved
loop-i-preserved g c =
    λ ns k. let few = c.requires in
    let is = c.items-c-items.ensures in
    let i = c.loop-i.i in
    let t = tree_of c.args.plan in
    masks_step i c.may_move.result ns (may_move t) c.mark-set.ensures (field_in k few is c.loop-i-test.true)
    (c.may_move.ensures ∙ ap (may_move t) (field_met k few is i)) (c.loop-i.invariant ns k)

pub returns : goal.returns
returns g c =
    λ ns k. masks_end c.loop-i.i ns (fields_past k c.requires c.items-c-items.ensures c.loop-i-test.false) (c.loop-i.invariant ns k)
