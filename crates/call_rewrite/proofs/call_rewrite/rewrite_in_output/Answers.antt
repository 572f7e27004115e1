-- `call_rewrite::rewrite_in_output` meets its contract.
use mathlib.Core.Path.{refl, sym, ◌∙◌}
use lib.ListN.{drop}
use lib.Seq.{length-take-le, length_front}
use Rattle.image.specs.Limits.{work_bytes}
use Rattle.push_down_rewrite.proofs.Images.{image_room, whole_image}
use Rattle.call_rewrite.proofs.Calls.{refused_11, granted_call}
use Rattle.push_down_rewrite.proofs.Fronts.{image_front}
use Rattle.call_rewrite.proofs.call_rewrite.rewrite_in_output.Goals as goal

pub rewrite_into-requires-clause-scratch_map : goal.rewrite_into-requires-clause-scratch_map
rewrite_into-requires-clause-scratch_map c = (
  c.requires.map_bytes_in_bounds.0,
  length-take-le work_bytes c.args.out.now c.requires.map_bytes_in_bounds.2,
  c.requires.map_bytes_in_bounds.1,
)

pub returns-in-Err : goal.returns-in-Err
returns-in-Err c =
    let h = c.requires.here in
    let o = c.in-Err.ensures _ h.spot h.inside in
    refused_11 _ _ _ h.inside.there (sym o.fit)

pub clear_behind-requires : goal.clear_behind-requires
clear_behind-requires c =
    let h = c.requires.here in
    let o = c.in-Ok.ensures _ h.spot h.inside in
    image_room (image_front (drop work_bytes c.args.out.now) (rw c.in-Some.is at o.image))

pub returns-in-Some : goal.returns-in-Some
returns-in-Some c =
    let h = c.requires.here in
    let o = c.in-Ok.ensures _ h.spot h.inside in
    let i = image_front (drop work_bytes c.args.out.now) (rw c.in-Some.is at o.image) in
    rw (length_front c.args.out.now c.rewrite_into.new.work work_bytes c.rewrite_into.auto.work) at (c.clear_behind.ensures _ i)
    ∙ granted_call _ _ _ h.inside.there (sym o.fit) o.flag refl

pub returns-in-None : goal.returns-in-None
returns-in-None c =
    let h = c.requires.here in
    let o = c.in-Ok.ensures _ h.spot h.inside in
    rw (length_front c.args.out.now c.rewrite_into.new.work work_bytes
    c.rewrite_into.auto.work) at (c.hand_over.ensures _ (whole_image h.whole refl))
    ∙ granted_call _ _ _ h.inside.there (sym o.fit) o.flag (sym (rw c.in-None.is at o.image))
