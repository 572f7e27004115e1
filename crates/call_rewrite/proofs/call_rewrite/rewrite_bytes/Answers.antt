-- `call_rewrite::rewrite_bytes` meets its contract.
use mathlib.Core.Path.{sym, ap, ◌∙◌}
use Rattle.rewrite.specs.OnBytes.{zeros}
use Rattle.call_rewrite.proofs.Calls.{cleared, kept}
use Rattle.call_rewrite.proofs.call_rewrite.rewrite_bytes.Goals as goal

pub returns-then-is_err : goal.returns-then-is_err
returns-then-is_err c =
    cleared _ _ _ c.rewrite_or_refuse-answer.ensures (sym c.is_err.ensures.value ∙ c.if-is_err.true) _
    (c.clear.ensures ∙ ap zeros c.rewrite_or_refuse-answer.auto.out)

pub returns-else-is_err : goal.returns-else-is_err
returns-else-is_err c =
    kept _ _ _ c.rewrite_or_refuse-answer.ensures (sym c.is_err.ensures.value ∙ c.if-is_err.false)
