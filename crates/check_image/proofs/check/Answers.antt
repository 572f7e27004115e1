-- `check` meets its contract: the refusal by the tests 1 to 5 is taken over, and where none is met names and types decide.
use mathlib.Core.Path.{◌≡◌, refl, ap, ◌∙◌}
use native.Mathlib.Omega.{arith}
use Rattle.std.specs.Prelude.{Err}
use Rattle.check_form.proofs.Sound.{sound}
use Rattle.check_image.specs.Answer.{verdict_of}
use Rattle.check_image.proofs.Later.{told_refusal, told_whole}
use Rattle.check_image.proofs.check.Goals as goal

pub checked_plan-requires : goal.checked_plan-requires
checked_plan-requires c = sound c.in_ok-root.ensures

pub returns-in_err-root : goal.returns-in_err-root
returns-in_err-root c =
    let same : c.from_residual.result ≡ Err c.in_err-root.field-0.0 = grind arith in
    ap verdict_of same ∙ told_refusal _ c.in_err-root.ensures refl

pub returns : goal.returns
returns c = (rw c.in_ok-root.ensures.image at c.checked_plan.ensures) ∙ told_whole _ c.in_ok-root.ensures.is refl
