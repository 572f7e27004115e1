use mathlib.Core.Path.{ap, ◌∙◌}
use Rattle.image.specs.Subtrees.{forest}
use Rattle.image.proofs.Room.{low_below, low_after}
use Rattle.image.proofs.Subtrees.{goes, gone}
use Rattle.push_down_base.proofs.WrittenRuns.{wrote_nothing}
use Rattle.push_down_join.proofs.JoinParts.{pairs_all, pairs_next, pairs_end}
use Rattle.push_down_join.proofs.write_sides.copy_pairs.Goals as goal

pub loop-child-init : goal.loop-child-init
loop-child-init c =
    let e = ap forest c.into_iter-child-iterator.ensures.into_iter_gives ∙ c.children-child-items.ensures.is in
    let none = c.put_nothing.ensures in
    (none.same, rw e (pairs_all _ _ c.args.out.now.long (wrote_nothing none.bytes none.next)), rw e c.requires)

pub copy_pair-requires : goal.copy_pair-requires
copy_pair-requires c =
    let g = goes c.loop-child.child-iterator c.next.new.self c.in-Some.child c.in-Some.ensures.steps in
    low_below g.is c.loop-child.invariant.2

pub loop-child-preserved : goal.loop-child-preserved
loop-child-preserved c =
    let g = goes c.loop-child.child-iterator c.next.new.self c.in-Some.child c.in-Some.ensures.steps in
    let k = c.loop-child.invariant in
    (c.copy_pair.ensures.same ∙ k.0, pairs_next _ _ (rw g.is at k.1) c.copy_pair.ensures.wrote, low_after g.is k.2)

pub returns-clause-wrote : goal.returns-clause-wrote
returns-clause-wrote c =
    let k = c.loop-child.invariant in pairs_end (rw (gone c.loop-child.child-iterator c.in-None.ensures.steps.0) at k.1)
