use mathlib.Core.Path.{◌≡◌, sym, ◌∙◌}
use mathlib.Core.Bool.{not}
use mathlib.Core.List.{[], ◌++◌}
use lib.ListN.{get_or}
use Rattle.plan.specs.Lists.{put}
use Rattle.conjuncts.specs.Items.{FALSE}
use Rattle.conjuncts.specs.Onto.{is_in, onto}
use Rattle.conjuncts.proofs.Listed.{walk_end, walk_in, walk_item}
use Rattle.conjuncts.proofs.Onto.{onto_next, onto_end}
use Rattle.conjuncts.proofs.unique.unique_onto.Goals as goal

pub add_new-r-requires : goal.add_new-r-requires
add_new-r-requires c =
    let p = c.requires.known in
    record {
      some = record { exprs = _; lists = (c.loop-x.invariant _ _ c.requires.some.lists p.lists).lists };
      present = record { expr = _; item = walk_item p.lists p.most c.items-x-items.ensures _ _ c.loop-x-test.true c.from.ensures };
    }

pub loop-x-preserved : goal.loop-x-preserved
loop-x-preserved c =
    λ fs es h k. let p = c.requires.known in
    let is = c.items-x-items.ensures in
    let i = c.loop-x.x-index in
    let w = c.loop-x.invariant fs es h k in
    record {
      done = w.done ++ put (not (is_in w.done (get_or es i FALSE))) (get_or es i FALSE) [];
      lists = c.add_new-r.ensures w.done (get_or es i FALSE) w.lists (walk_item k p.most is i _ c.loop-x-test.true c.from.ensures);
      is = sym (onto_next w.done es i (walk_in k p.most is c.loop-x-test.true)) ∙ w.is;
    }

pub returns : goal.returns
returns c =
    λ fs es h k. let w = c.loop-x.invariant fs es h k in
    let e : w.done ≡ onto fs es = sym (onto_end w.done)
    ∙ (rw (walk_end k c.requires.known.most c.items-x-items.ensures c.loop-x-test.false) at w.is) in
    rw (← e) w.lists
