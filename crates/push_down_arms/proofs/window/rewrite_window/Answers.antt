use Rattle.plan.specs.Syntax.{window}
use Rattle.push_down_arms.proofs.Divisions.{window_takes, window_pushed}
use Rattle.push_down_arms.proofs.window.rewrite_window.Goals as goal

pub push_some-requires-clause-dividing : goal.push_some-requires-clause-dividing
push_some-requires-clause-dividing c =
    let o = c.requires.over_window in
    let h = o.rests.placed in record {
      above = window o.entries;
      plan = o.plan;
      stay = _;
      move = _;
      placed = h;
      takes = window_takes h.short o.entries h.standing;
      divides = c.divide.ensures o.expr (window o.entries o.plan) o.rests;
    }

pub returns-clause-answers : goal.returns-clause-answers
returns-clause-answers c =
    λ e ws q h. rw (window_pushed e ws q)
    (c.push_some.ensures.answers (window ws) q _ _ h.placed (window_takes h.placed.short ws h.placed.standing)
    (c.divide.ensures e (window ws q) h))
