use Rattle.plan.specs.Syntax.{aggregate}
use Rattle.push_down_arms.proofs.Divisions.{aggregate_takes, aggregate_pushed}
use Rattle.push_down_arms.proofs.aggregate.rewrite_aggregate.Goals as goal

pub push_some-requires-clause-dividing : goal.push_some-requires-clause-dividing
push_some-requires-clause-dividing c =
    let o = c.requires.over_aggregate in
    let h = o.rests.placed in record {
      above = aggregate o.groups o.entries;
      plan = o.plan;
      stay = _;
      move = _;
      placed = h;
      takes = aggregate_takes h.short o.groups o.entries h.standing;
      divides = c.divide_groups.ensures o.expr o.groups o.entries o.plan o.rests;
    }

pub returns-clause-answers : goal.returns-clause-answers
returns-clause-answers c =
    λ e gs ags q h. rw (aggregate_pushed e gs ags q)
    (c.push_some.ensures.answers (aggregate gs ags) q _ _ h.placed (aggregate_takes h.placed.short gs ags h.placed.standing)
    (c.divide_groups.ensures e gs ags q h))
