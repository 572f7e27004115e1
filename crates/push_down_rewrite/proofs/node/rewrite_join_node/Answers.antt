-- `node::rewrite_join_node` meets its contract.
use Rattle.std.proofs.Common.{rules}
use mathlib.Core.List.{[]}
use native.Mathlib.Omega.{arith}
use Rattle.rewrite.specs.PushDownFilter.{push_down_join}
use Rattle.plan.specs.Lists.{anil}
use Rattle.push_down_base.proofs.Scoping.{reads_none}
use Rattle.push_down_join.proofs.JoinsUnder.{none_under}
use Rattle.push_down_merge.proofs.Tested.{stands_inside, level_small}
use Rattle.push_down_stays.proofs.Nodes.{the_join, placed_inside}
use Rattle.push_down_rewrite.specs.Outcomes.{Outcomes}
use Rattle.push_down_rewrite.proofs.Outcoming.{join_outcomes, outcomes_as}
use Rattle.push_down_rewrite.proofs.node.rewrite_join_node.Goals as goal

pub write_before-spot-requires-clause-there_p : goal.write_before-spot-requires-clause-there_p
write_before-spot-requires-clause-there_p c =
    record { plan = c.requires.spot.plan; standing = stands_inside c.requires.inside }

pub push_down_join-flag-requires-clause-join_under : goal.push_down_join-flag-requires-clause-join_under
push_down_join-flag-requires-clause-join_under c =
    none_under (placed_inside c.requires.inside c.requires.is) c.empty.ensures

pub push_down_join-flag-requires-clause-arm : goal.push_down_join-flag-requires-clause-arm
push_down_join-flag-requires-clause-arm c =
    let j = c.requires in
    let i = j.inside in
    let b = c.write_before-spot.ensures.before j.whole j.spot i.root i.there (stands_inside i) in
    omega (arith, level_small i b.level)

pub finish-requires-clause-replaced : goal.finish-requires-clause-replaced
finish-requires-clause-replaced c =
    let j = c.requires in
    let i = j.inside in record {
      node = _;
      whole = j.whole;
      place = j.spot;
      answer = push_down_join j.kind j.lhs j.rhs j.keys j.condition [];
      replaces = record {
        inside = i;
        before = _;
        long = c.write_before-spot.new.out.long;
        begun = c.write_before-spot.ensures.before j.whole j.spot i.root i.there (stands_inside i);
        answers = rw c.write_before-spot.ensures.next at (c.push_down_join-flag.ensures.answers j.kind j.lhs j.rhs j.keys j.condition []
            (placed_inside i j.is) (reads_none c.empty.ensures) anil);
      };
    }

pub returns-clause-outcomes : goal.returns-clause-outcomes
returns-clause-outcomes c =
    λ w f h. let a = the_join c.requires h in
    let done : Outcomes c.finish.new.out.bytes.now c.finish.result w f = join_outcomes a.is
    (c.finish.ensures.finishes _ w f (push_down_join a.kind a.lhs a.rhs a.keys a.condition [])
    (record {
      inside = h;
      before = _;
      long = c.write_before-spot.new.out.long;
      begun = c.write_before-spot.ensures.before w f h.root h.there (stands_inside h);
      answers = rw c.write_before-spot.ensures.next at (c.push_down_join-flag.ensures.answers a.kind a.lhs a.rhs a.keys a.condition []
          (placed_inside h a.is) (reads_none c.empty.ensures) anil);
    })) in
    search (rules, outcomes_as)
