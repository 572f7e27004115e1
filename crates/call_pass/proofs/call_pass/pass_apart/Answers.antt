-- `call_pass::pass_apart` meets its contract.
use mathlib.Core.Path.{◌≡◌, ◌∙◌}
use native.Mathlib.Omega.{arith}
use Rattle.std.specs.Prelude.{Err}
use Rattle.push_down_rewrite.proofs.Images.{image_room}
use Rattle.call_pass.proofs.Reports.{walk_refused, called}
use Rattle.call_pass.proofs.call_pass.pass_apart.Goals as goal

pub returns-in_err-w : goal.returns-in_err-w
returns-in_err-w c =
    let same : c.from_residual.result ≡ Err c.in_err-w.field-0.0 = grind arith in
    let k = walk_refused _ c.in_err-w.ensures in
    rw same (k.0, k.1 ∙ called _ _ _)

pub hand_over_walk-requires : goal.hand_over_walk-requires
hand_over_walk-requires c =
    (image_room c.in_ok-w.ensures.image, omega (arith, c.walk_in.auto, c.requires.a_len))

pub returns : goal.returns
returns c =
    let h = c.hand_over_walk.ensures in (h.0, h.1 _ c.in_ok-w.ensures ∙ called _ _ _)
