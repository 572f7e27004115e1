use mathlib.Core.Path.{sym, ◌∙◌}
use native.Mathlib.Omega.{arith}
use Rattle.writing.proofs.Maps.{over_at}
use Rattle.writing.proofs.Written.{wrote_filter}
use Rattle.push_down_arms.specs.Over.{under}
use Rattle.push_down_base.proofs.Perhapsing.{none_left, some_left, predicated}
use Rattle.push_down_arms.proofs.with_filters.write_over.Goals as goal

pub write_below-requires-clause-over : goal.write_below-requires-clause-over
write_below-requires-clause-over c = over_at c.requires.over (omega arith)

pub returns-then-is_gone-clause-wrote : goal.returns-then-is_gone-clause-wrote
returns-then-is_gone-clause-wrote c =
    λ σ m a b h k f q n g e x y. rw (none_left h (sym c.is_gone.ensures ∙ c.if-is_gone.true)) (c.write_below.ensures.wrote σ m b k f q n g e x y)

pub copy_predicate-requires : goal.copy_predicate-requires
copy_predicate-requires c =
    (omega arith, (predicated c.requires.writable.0 (sym c.is_gone.ensures ∙ c.if-is_gone.false), over_at c.requires.over (omega arith)))

pub write_below-requires-2-clause-over : goal.write_below-requires-2-clause-over
write_below-requires-2-clause-over c = over_at c.requires.over (omega arith)

pub returns-clause-wrote : goal.returns-clause-wrote
returns-clause-wrote c =
    λ σ m a b h k f q n g e x y. let l = some_left h (sym c.is_gone.ensures ∙ c.if-is_gone.false) in
    rw l.is (wrote_filter c.args.out.now.long l.expr (f (under b q)) c.put_kind.ensures.put
    (c.copy_predicate.ensures.wrote σ m l.expr l.predicate) (c.write_below-2.ensures.wrote σ m b k f q n g e x y))
