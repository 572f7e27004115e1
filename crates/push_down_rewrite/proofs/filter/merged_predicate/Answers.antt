-- `filter::merged_predicate` meets its contract.
use mathlib.Core.Path.{◌∙◌}
use native.Mathlib.Omega.{arith}
use Rattle.conjuncts.proofs.Listed.{known_of}
use Rattle.push_down_merge.proofs.OneMerge.{own_few, predicate_stands}
use Rattle.push_down_merge.proofs.Tested.{elsewhere}
use Rattle.push_down_rewrite.proofs.Again.{shaped_here}
use Rattle.push_down_rewrite.proofs.filter.merged_predicate.Goals as goal

pub predicate_of-requires : goal.predicate_of-requires
predicate_of-requires c =
    let p = c.requires.on_filter in record {
      here = record { expr = p.lower; plan = p.plan; standing = elsewhere c.requires.image p.rests.placed.standing };
      short = rw c.requires.image p.rests.placed.short;
    }

pub predicate_at-lower-requires : goal.predicate_at-lower-requires
predicate_at-lower-requires c =
    let p = c.requires.on_filter in
    let d = c.predicate_of.ensures in
    let here = d.same ∙ c.requires.image in record {
      there = record { expr = p.lower; standing = predicate_stands here d.number p.rests.placed };
      number_nonzero = omega (arith, d.number);
      short = rw here p.rests.placed.short;
    }

pub merge-requires-clause-known : goal.merge-requires-clause-known
merge-requires-clause-known c =
    let p = c.requires.on_filter in
    let h = p.rests.placed in
    let d = c.predicate_of.ensures in
    let here = d.same ∙ c.requires.image in
    let few = own_few p.lower p.plan h.lists in
    known_of (shaped_here here (c.predicate_at-lower.ensures p.lower (predicate_stands here d.number h) few)).listed few

pub returns : goal.returns
returns c =
    λ e b m q k i.
    let d = c.predicate_of.ensures in
    let here = d.same ∙ c.requires.image in
    let few = own_few b q k.placed.lists in
    let l = (shaped_here here (c.predicate_at-lower.ensures b (predicate_stands here d.number k.placed) few)).listed in
    c.merge.ensures e b m k.shaped l i
