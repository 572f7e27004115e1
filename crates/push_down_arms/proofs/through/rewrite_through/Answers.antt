use mathlib.Core.Path.{◌≡◌, sym, ap, ◌∙◌}
use mathlib.Core.Bool.{true, false}
use Rattle.image.specs.Tree.{Label, Tree}
use Rattle.plan.specs.Trees.{label_p}
use Rattle.writing.proofs.Maps.{plan_is}
use Rattle.push_down_arms.specs.Through.{takes_none}
use Rattle.push_down_arms.proofs.Passing.{stays, passes, rests_as}
use Rattle.push_down_arms.proofs.through.rewrite_through.Goals as goal

pub returns-then-takes_none-clause-answers : goal.returns-then-takes_none-clause-answers
returns-then-takes_none-clause-answers c =
    λ e q h i. let t : takes_none (label_p q) ≡ true =
    sym (ap (λ (l : Label). takes_none l) (c.label.ensures.label ∙ ap (λ (u : Tree). u.label) (plan_is c.args.plan h.placed.standing)))
    ∙ (sym c.takes_none.ensures ∙ c.if-takes_none.true) in
    rw (stays e q i t) (c.keep_filter.ensures.answers e q h)

pub push_filter-requires-clause-taken : goal.push_filter-requires-clause-taken
push_filter-requires-clause-taken c =
    let o = c.requires.over_through in
    let h = o.rests in
    let t : takes_none (label_p o.plan) ≡ false =
    sym (ap (λ (l : Label). takes_none l) (c.label.ensures.label ∙ ap (λ (u : Tree). u.label) (plan_is c.args.plan h.placed.standing)))
    ∙ (sym c.takes_none.ensures ∙ c.if-takes_none.false) in
    let k = passes o.expr o.plan h.placed.short h.placed.standing o.is t in
    record { expr = o.expr; plan = k.input; above = k.above; rests = rests_as k.is h; takes = k.takes }

pub returns-clause-answers : goal.returns-clause-answers
returns-clause-answers c =
    λ e q h i. let t : takes_none (label_p q) ≡ false =
    sym (ap (λ (l : Label). takes_none l) (c.label.ensures.label ∙ ap (λ (u : Tree). u.label) (plan_is c.args.plan h.placed.standing)))
    ∙ (sym c.takes_none.ensures ∙ c.if-takes_none.false) in
    let k = passes e q h.placed.short h.placed.standing i t in
    rw k.rewritten (c.push_filter.ensures.answers e k.input k.above (rests_as k.is h) k.takes)
