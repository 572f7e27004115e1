use mathlib.Core.Path.{sym, ◌∙◌}
use Rattle.plan.specs.Syntax.{project}
use Rattle.conjuncts.proofs.Listed.{lists_length}
use Rattle.push_down_arms.proofs.Divisions.{project_takes, project_kept, project_pushed}
use Rattle.push_down_arms.proofs.projection.rewrite_projection.Goals as goal

pub returns-then-moved-eq0-clause-answers : goal.returns-then-moved-eq0-clause-answers
returns-then-moved-eq0-clause-answers c =
    λ e es q h. let d = c.divide-d.ensures e (project es q) h in
    rw (project_kept e es q (lists_length d.moved d.moved_most ∙ c.if-moved-eq0.true))
    (c.keep_filter.ensures.answers e (project es q) h)

pub push_some-requires-clause-dividing : goal.push_some-requires-clause-dividing
push_some-requires-clause-dividing c =
    let o = c.requires.over_projection in
    let h = o.rests.placed in record {
      above = project o.entries;
      plan = o.plan;
      stay = _;
      move = _;
      placed = h;
      takes = project_takes h.short o.entries h.standing;
      divides = c.divide-d.ensures o.expr (project o.entries o.plan) o.rests;
    }

pub returns-clause-answers : goal.returns-clause-answers
returns-clause-answers c =
    λ e es q h. let d = c.divide-d.ensures e (project es q) h in
    rw (project_pushed e es q (λ z. c.if-moved-eq0.false (sym (lists_length d.moved d.moved_most) ∙ z)))
    (c.push_some.ensures.answers (project es) q _ _ h.placed (project_takes h.placed.short es h.placed.standing) d)
