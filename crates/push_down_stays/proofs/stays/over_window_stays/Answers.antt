-- `stays::over_window_stays` meets its contract.
use mathlib.Core.Path.{sym, ◌∙◌}
use Rattle.plan.specs.Syntax.{window}
use Rattle.conjuncts.proofs.Listed.{lists_length}
use Rattle.push_down_stays.proofs.Stayings.{window_kept, window_moves}
use Rattle.push_down_stays.proofs.stays.over_window_stays.Goals as goal

pub joined_left_deep-requires : goal.joined_left_deep-requires
joined_left_deep-requires c =
    let r = c.requires.rests in (record { expr = _; shaped = r.shaped }, r.placed.short)

pub returns-then-moved-eq0 : goal.returns-then-moved-eq0
returns-then-moved-eq0 c =
    λ e ws q h. let d = c.divide-d.ensures e (window ws q) h in
    window_kept e ws q (lists_length d.moved d.moved_most ∙ c.if-moved-eq0.true) (c.joined_left_deep.ensures e h.shaped)

pub returns : goal.returns
returns c =
    λ e ws q h. let d = c.divide-d.ensures e (window ws q) h in
    window_moves e ws q (λ z. c.if-moved-eq0.false (sym (lists_length d.moved d.moved_most) ∙ z))
