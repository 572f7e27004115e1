use mathlib.Core.Path.{sym, ◌∙◌}
use Rattle.push_down_base.proofs.Scoping.{reads_keep, reads_none}
use Rattle.push_down_join.proofs.SideLists.{keyed_inner, keyed_other}
use Rattle.push_down_join.proofs.infer_join_predicates.infer_join_predicates.Goals as goal

pub returns-then-is_inner : goal.returns-then-is_inner
returns-then-is_inner c =
    λ l r on es k h. rw (keyed_inner _ on es (sym c.is_inner.ensures ∙ c.if-is_inner.true))
    (reads_keep _ h (c.select_side.ensures es _ _ h.lists k.names h.over k.alone).1)

pub returns : goal.returns
returns c =
    λ l r on es k h. rw (keyed_other _ on es (sym c.is_inner.ensures ∙ c.if-is_inner.false)) (reads_none c.empty.ensures)
