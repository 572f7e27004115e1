-- `stays::over_aggregate_stays` meets its contract.
use mathlib.Core.Path.{sym, ◌∙◌}
use Rattle.conjuncts.proofs.Listed.{lists_length}
use Rattle.push_down_stays.proofs.Stayings.{aggregate_kept, aggregate_moves}
use Rattle.push_down_stays.proofs.stays.over_aggregate_stays.Goals as goal

pub joined_left_deep-requires : goal.joined_left_deep-requires
joined_left_deep-requires c =
    let r = c.requires.rests in (record { expr = _; shaped = r.shaped }, r.placed.short)

pub returns-then-moved-eq0 : goal.returns-then-moved-eq0
returns-then-moved-eq0 c =
    λ e gs ags q h. let d = c.divide_groups-d.ensures e gs ags q h in
    aggregate_kept e gs ags q (lists_length d.moved d.moved_most ∙ c.if-moved-eq0.true)
    (c.joined_left_deep.ensures e h.shaped)

pub returns : goal.returns
returns c =
    λ e gs ags q h. let d = c.divide_groups-d.ensures e gs ags q h in
    aggregate_moves e gs ags q (λ z. c.if-moved-eq0.false (sym (lists_length d.moved d.moved_most) ∙ z))
