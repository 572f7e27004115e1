-- `call_rewrite::rewrite_or_refuse` meets its contract.
use mathlib.Core.Path.{◌≡◌, ◌∙◌}
use native.Mathlib.Omega.{arith}
use Rattle.std.specs.Prelude.{Err}
use Rattle.check_image.proofs.Accepting.{is_accepted, is_refused}
use Rattle.push_down_rewrite.proofs.Images.{whole}
use Rattle.call_rewrite.proofs.Calls.{refused_image, accepted_image}
use Rattle.call_rewrite.proofs.call_rewrite.rewrite_or_refuse.Goals as goal

pub returns-in_err-check : goal.returns-in_err-check
returns-in_err-check c =
    let same : c.from_residual.result ≡ Err c.in_err-check.field-0.0 = grind arith in
    rw same (refused_image _ _ _ _ (is_refused _ c.check.ensures c.in_err-check.was))

pub rewrite_at-requires : goal.rewrite_at-requires
rewrite_at-requires c =
    whole c.args.image.now (λ i. omega (arith, c.type_inv.image i)) (is_accepted _ c.check.ensures c.in_ok-check.was)

pub returns : goal.returns
returns c =
    c.rewrite_at.ensures ∙ accepted_image _ _ _ (is_accepted _ c.check.ensures c.in_ok-check.was)
