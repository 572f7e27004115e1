-- `call_pass::pass_bytes` meets its contract.
use mathlib.Core.Path.{sym, ap, ◌∙◌}
use Rattle.rewrite.specs.OnBytes.{zeros}
use Rattle.call_pass.proofs.Reports.{cleared, kept}
use Rattle.call_pass.proofs.call_pass.pass_bytes.Goals as goal

pub returns-then-is_err : goal.returns-then-is_err
returns-then-is_err c = (
  c.pass_or_refuse-answer.ensures.0,
  cleared _ _ _ c.pass_or_refuse-answer.ensures.1 (sym c.is_err.ensures.value ∙ c.if-is_err.true) _
      (c.clear.ensures ∙ ap zeros c.pass_or_refuse-answer.auto.out),
)

pub returns-else-is_err : goal.returns-else-is_err
returns-else-is_err c =
    (c.pass_or_refuse-answer.ensures.0, kept _ _ _ c.pass_or_refuse-answer.ensures.1 (sym c.is_err.ensures.value ∙ c.if-is_err.false))
