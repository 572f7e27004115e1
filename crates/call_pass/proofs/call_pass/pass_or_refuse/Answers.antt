-- `call_pass::pass_or_refuse` meets its contract.
use mathlib.Core.Path.{◌≡◌, ◌∙◌}
use native.Mathlib.Omega.{arith}
use Rattle.std.specs.Prelude.{Err}
use Rattle.check_image.proofs.Accepting.{is_accepted, is_refused, small_record}
use Rattle.push_down_rewrite.proofs.Images.{whole}
use Rattle.call_pass.proofs.Reports.{refused_image, accepted_image}
use Rattle.call_pass.proofs.call_pass.pass_or_refuse.Goals as goal

pub returns-in_err-check : goal.returns-in_err-check
returns-in_err-check c =
    let same : c.from_residual.result ≡ Err c.in_err-check.field-0.0 = grind arith in
    let e = is_refused _ c.check.ensures c.in_err-check.was in
    rw same (small_record _ _ e, refused_image _ _ _ _ e)

pub pass_on-requires : goal.pass_on-requires
pass_on-requires c =
    whole c.args.image.now (λ i. omega (arith, c.type_inv.image i)) (is_accepted _ c.check.ensures c.in_ok-check.was)

pub returns : goal.returns
returns c =
    let p = c.pass_on.ensures in
    (p.0, p.1 ∙ accepted_image _ _ _ (is_accepted _ c.check.ensures c.in_ok-check.was))
