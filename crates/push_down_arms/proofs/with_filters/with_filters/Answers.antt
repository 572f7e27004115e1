use mathlib.Core.Path.{sym, ◌∙◌}
use native.Mathlib.Omega.{arith}
use Rattle.writing.proofs.Maps.{deep_low}
use Rattle.push_down_base.proofs.Perhapsing.{none_left, some_left, predicated}
use Rattle.image.proofs.Room.{cap_le}
use Rattle.push_down_arms.proofs.with_filters.with_filters.Goals as goal

pub copy_tree-requires : goal.copy_tree-requires
copy_tree-requires c =
    (omega arith, deep_low _ (omega (arith, c.requires.over.shallow)) c.requires.deep)

pub returns-then-is_gone-clause-wrote : goal.returns-then-is_gone-clause-wrote
returns-then-is_gone-clause-wrote c =
    λ σ m o h q k. rw (none_left h (sym c.is_gone.ensures ∙ c.if-is_gone.true), ← k) c.copy_tree.ensures.wrote

pub make_filter-requires : goal.make_filter-requires
make_filter-requires c =
    (omega arith, (omega arith, (predicated c.requires.writable (sym c.is_gone.ensures ∙ c.if-is_gone.false), (c.requires.over, c.requires.deep))))

pub returns-clause-wrote : goal.returns-clause-wrote
returns-clause-wrote c =
    λ σ m o h q k. let l = some_left h (sym c.is_gone.ensures ∙ c.if-is_gone.false) in
    rw l.is (c.make_filter.ensures.wrote σ m l.expr l.predicate q k)

pub returns-then-is_gone-clause-counted : goal.returns-then-is_gone-clause-counted
returns-then-is_gone-clause-counted c = rw c.copy_tree.ensures.wrote.next (cap_le _)
