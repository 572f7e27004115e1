-- `extract_or_clause::or_clause_at` meets its contract.
use mathlib.Core.Path.{ap, ◌∙◌}
use Rattle.image.specs.Tree.{Tree}
use Rattle.conjuncts.proofs.Standing.{tree_found}
use Rattle.push_down_join.specs.Clauses.{operator_of, yields}
use Rattle.push_down_join.proofs.Extracting.{or_top, no_or_top, or_false}
use Rattle.push_down_join.proofs.extract_or_clause.or_clause_at.Goals as goal

pub returns-in_default : goal.returns-in_default
returns-in_default c = λ e ns d h g held m. or_false d e (c.in_default.ensures e h)

pub returns-in-Some-Or : goal.returns-in-Some-Or
returns-in-Some-Or c =
    λ e ns d h g held m.
    let t = tree_found (c.in-Some.ensures e h) in
    let l = c.label.ensures.label ∙ ap (λ (u : Tree). u.label) t in
    c.extract_or_clause.ensures e ns d t g held m
    ∙ ap yields (or_top d e (c.operator.ensures ∙ ap operator_of l) (rw c.in-Some-Or.field-0-is at c.in-Some-Or.is))

pub returns-in_default-operator : goal.returns-in_default-operator
returns-in_default-operator c =
    λ e ns d h g held m.
    let t = tree_found (c.in-Some.ensures e h) in
    let l = c.label.ensures.label ∙ ap (λ (u : Tree). u.label) t in
    no_or_top d e (c.operator.ensures ∙ ap operator_of l) (λ k. cc c.in_default-operator.ensures)

pub returns-in_default-operator-2 : goal.returns-in_default-operator-2
returns-in_default-operator-2 c =
    λ e ns d h g held m.
    let t = tree_found (c.in-Some.ensures e h) in
    let l = c.label.ensures.label ∙ ap (λ (u : Tree). u.label) t in
    no_or_top d e (c.operator.ensures ∙ ap operator_of l) (λ k. cc)
