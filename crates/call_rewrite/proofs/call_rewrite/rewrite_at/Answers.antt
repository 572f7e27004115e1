-- `call_rewrite::rewrite_at` meets its contract.
use native.Mathlib.Omega.{arith}
use mathlib.Core.Path.{refl, ◌∙◌}
use Rattle.push_down_rewrite.proofs.Images.{whole_image}
use Rattle.push_down_merge.proofs.Tested.{stood_inside}
use Rattle.call_rewrite.proofs.Calls.{refused_8, absent, no_plan, a_plan, stayed}
use Rattle.call_rewrite.proofs.call_rewrite.rewrite_at.Goals as goal

pub returns-then-image-node : goal.returns-then-image-node
returns-then-image-node c =
    refused_8 _ _ _ (absent c.requires c.if-image-node.true)

pub returns-then-not-is_plan : goal.returns-then-not-is_plan
returns-then-not-is_plan c =
    refused_8 _ _ _
    (no_plan c.requires c.if-image-node.false c.record_at.ensures c.word_at.ensures.0 c.is_plan.ensures
    (c.if-not-is_plan.true))

pub invariant_of-plan : goal.invariant_of-plan
invariant_of-plan c =
    let h = a_plan c.requires c.if-image-node.false
    c.record_at.ensures
    c.word_at.ensures.0 c.is_plan.ensures (c.if-not-is_plan.false) in
    record { past = omega arith; stood = stood_inside h.inside }

pub stays-requires : goal.stays-requires
stays-requires c =
    let h = a_plan c.requires c.if-image-node.false
    c.record_at.ensures
    c.word_at.ensures.0 c.is_plan.ensures (c.if-not-is_plan.false) in
    record { whole = _; spot = h.spot; inside = h.inside }

pub returns-then-stays : goal.returns-then-stays
returns-then-stays c =
    let h = a_plan c.requires
    c.if-image-node.false
    c.record_at.ensures
    c.word_at.ensures.0
    c.is_plan.ensures (c.if-not-is_plan.false) in
    c.hand_over.ensures _ (whole_image h.whole refl)
    ∙ stayed _ h (c.stays.ensures _ h.spot h.inside) c.if-stays.true

pub rewrite_here-requires : goal.rewrite_here-requires
rewrite_here-requires c =
    a_plan c.requires c.if-image-node.false c.record_at.ensures c.word_at.ensures.0 c.is_plan.ensures
    (c.if-not-is_plan.false)
