-- `call_rewrite::rewrite_apart` meets its contract.
use mathlib.Core.Path.{refl, sym, ◌∙◌}
use Rattle.push_down_rewrite.proofs.Images.{image_room, whole_image}
use Rattle.call_rewrite.proofs.Calls.{refused_11, granted_call}
use Rattle.call_rewrite.proofs.call_rewrite.rewrite_apart.Goals as goal

pub returns-in-Err : goal.returns-in-Err
returns-in-Err c =
    let h = c.requires in
    let o = c.in-Err.ensures.outcomes _ h.spot h.inside in
    refused_11 _ _ _ h.inside.there (sym o.fit)

pub hand_over-requires : goal.hand_over-requires
hand_over-requires c =
    let h = c.requires in
    let o = c.in-Ok.ensures.outcomes _ h.spot h.inside in
    image_room (rw c.in-Some.is at o.image)

pub returns-in-Some : goal.returns-in-Some
returns-in-Some c =
    let h = c.requires in
    let o = c.in-Ok.ensures.outcomes _ h.spot h.inside in
    c.hand_over.ensures _ (rw c.in-Some.is at o.image) ∙ granted_call _ _ _ h.inside.there (sym o.fit) o.flag refl

pub returns-in-None : goal.returns-in-None
returns-in-None c =
    let h = c.requires in
    let o = c.in-Ok.ensures.outcomes _ h.spot h.inside in
    c.hand_over-in-None.ensures _ (whole_image h.whole refl)
    ∙ granted_call _ _ _ h.inside.there (sym o.fit) o.flag (sym (rw c.in-None.is at o.image))
