use mathlib.Core.Path.{sym, ap, ◌∙◌}
use Rattle.image.specs.Subtrees.{forest}
use Rattle.image.proofs.Subtrees.{goes, gone}
use Rattle.utils.specs.Fields.{named}
use Rattle.push_down_arms.specs.Movable.{named_in}
use Rattle.push_down_arms.proofs.Moves.{named_here, named_next, named_none, partition_none, partition_rest}
use Rattle.push_down_arms.proofs.contain.has_partition.Goals as goal

pub returns-in_default : goal.returns-in_default
returns-in_default g c = partition_none (named c.args.c) (sym c.children.ensures.is ∙ c.in_default.ensures)

pub loop-column-init : goal.loop-column-init
loop-column-init g c =
    let e = ap forest c.into_iter-column-iterator.ensures.into_iter_gives in
    sym (partition_rest (named c.args.c) (sym c.children.ensures.is ∙ c.in-Some.ensures.is)) ∙ ap (named_in (named c.args.c)) (sym e)

pub returns-then-is_named : goal.returns-then-is_named
returns-then-is_named g c =
    let w = goes c.loop-column.column-iterator c.next.new.self c.in-Some-column.column c.in-Some-column.ensures.steps in
    sym (c.loop-column.invariant ∙ named_here (named c.args.c) w.is (sym c.is_named.ensures ∙ c.if-is_named.true))

pub loop-column-preserved : goal.loop-column-preserved
loop-column-preserved g c =
    let w = goes c.loop-column.column-iterator c.next.new.self c.in-Some-column.column c.in-Some-column.ensures.steps in
    c.loop-column.invariant ∙ named_next (named c.args.c) w.is (sym c.is_named.ensures ∙ c.if-is_named.false)

pub returns : goal.returns
returns g c = sym (c.loop-column.invariant ∙ named_none (named c.args.c) (gone c.loop-column.column-iterator c.in-None.ensures.steps.0))
