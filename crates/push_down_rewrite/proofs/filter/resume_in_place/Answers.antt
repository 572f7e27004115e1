-- `filter::resume_in_place` meets its contract.
use Rattle.std.proofs.Common.{rules}
use native.Mathlib.Omega.{arith}
use Rattle.rewrite.specs.PushDownFilter.{resume, rewrite_filter}
use Rattle.push_down_merge.proofs.Tested.{stands_inside, level_small}
use Rattle.push_down_rewrite.proofs.Again.{left_elsewhere}
use Rattle.push_down_rewrite.proofs.Outcoming.{finishes_as}
use Rattle.push_down_rewrite.proofs.filter.resume_in_place.Goals as goal

pub write_before-spot-requires-clause-there_p : goal.write_before-spot-requires-clause-there_p
write_before-spot-requires-clause-there_p c =
    let i = c.requires.left_inside.inside in
    record { plan = c.requires.left_inside.spot.plan; standing = stands_inside i }

pub resume-flag-requires-clause-some_left : goal.resume-flag-requires-clause-some_left
resume-flag-requires-clause-some_left c =
    let l = c.requires.left_inside in
    record { option = l.option; plan = l.plan; left = left_elsewhere c.requires.image l.left }

pub resume-flag-requires-clause-arm : goal.resume-flag-requires-clause-arm
resume-flag-requires-clause-arm c =
    let l = c.requires.left_inside in
    let i = l.inside in
    let b = c.write_before-spot.ensures.before l.whole l.spot i.root i.there (stands_inside i) in
    omega (arith, level_small i b.level)

pub finish-requires-clause-replaced : goal.finish-requires-clause-replaced
finish-requires-clause-replaced c =
    let l = c.requires.left_inside in
    let i = l.inside in record {
      node = _;
      whole = l.whole;
      place = l.spot;
      answer = resume l.option (λ e. rewrite_filter e l.plan) l.plan;
      replaces = record {
        inside = i;
        before = _;
        long = c.write_before-spot.new.out.long;
        begun = c.write_before-spot.ensures.before l.whole l.spot i.root i.there (stands_inside i);
        answers = rw c.write_before-spot.ensures.next at (c.resume-flag.ensures.answers l.option l.plan (left_elsewhere c.requires.image l.left));
      };
    }

pub returns-clause-finishes : goal.returns-clause-finishes
returns-clause-finishes c =
    λ w f h o q l. let done = c.finish.ensures.finishes _ w f (resume o (λ e. rewrite_filter e q) q) (record {
      inside = h;
      before = _;
      long = c.write_before-spot.new.out.long;
      begun = c.write_before-spot.ensures.before w f h.root h.there (stands_inside h);
      answers = rw c.write_before-spot.ensures.next at (c.resume-flag.ensures.answers o q (left_elsewhere c.requires.image l));
    }) in
    search (rules, finishes_as)
