use mathlib.Core.Path.{refl, sym, ap, ◌∙◌}
use Rattle.image.specs.Tree.{Tree}
use Rattle.writing.proofs.Maps.{plan_is}
use Rattle.plan.specs.Syntax.{aggregate}
use Rattle.push_down_arms.specs.Movable.{entry_first}
use Rattle.push_down_arms.proofs.Divisions.{some_groups, divides_none}
use Rattle.push_down_arms.proofs.aggregate.divide_groups.Goals as goal

pub returns-then-has_groups : goal.returns-then-has_groups
returns-then-has_groups c =
    λ e gs ags q h. let i = ap (λ (t : Tree). entry_first t.below) (plan_is c.args.plan h.placed.standing) in
    rw (← some_groups gs ags q (sym (c.has_groups.ensures ∙ i) ∙ c.if-has_groups.true)) (c.divide.ensures e (aggregate gs ags q) h)

pub returns : goal.returns
returns c =
    λ e gs ags q h. let i = ap (λ (t : Tree). entry_first t.below) (plan_is c.args.plan h.placed.standing) in
    divides_none gs ags q h.shaped (sym (c.has_groups.ensures ∙ i) ∙ c.if-has_groups.false) refl c.empty.ensures
