use mathlib.Core.Path.{refl, sym, ap, ◌∙◌}
use mathlib.Core.Bool.{◌&&◌, ◌||◌}
use Rattle.plan.specs.Schema.{has}
use Rattle.rewrite.specs.PushDownFilter.{extract_or_clause}
use Rattle.push_down_join.specs.Clauses.{yields}
use Rattle.push_down_join.proofs.Extracting.{sides_and, sides_or, held_left, held_right, and_yields, or_yields}
use Rattle.push_down_join.proofs.Extracting.{other_yields}
use Rattle.push_down_join.proofs.extract_or_clause.+extract_or_clause.Goals as goal

pub returns-in_default : goal.returns-in_default
returns-in_default g t c =
    λ e ns d h g held k. c.has_all_column_refs.ensures e ns d h g held k ∙ other_yields d e (sym (c.in_default.ensures e h)) refl

pub returns-then-extract_or_clause : goal.returns-then-extract_or_clause
returns-then-extract_or_clause g t c =
    λ e ns d h g held k.
    let u = sides_and c.in-Some.ensures e h c.in-And.is in
    let a = c.extract_or_clause.ensures u.lhs ns d u.left g (held_left u (has ns) held) k in
    rw c.if-extract_or_clause.true
    (ap (λ x. x || yields (extract_or_clause d u.rhs)) (sym c.if-extract_or_clause.true ∙ a) ∙ and_yields d u)

pub returns-else-extract_or_clause : goal.returns-else-extract_or_clause
returns-else-extract_or_clause g t c =
    λ e ns d h g held k.
    let u = sides_and c.in-Some.ensures e h c.in-And.is in
    let a = c.extract_or_clause.ensures u.lhs ns d u.left g (held_left u (has ns) held) k in
    let b = c.extract_or_clause-else-extract_or_clause.ensures u.rhs ns d u.right g (held_right u (has ns) held) k in
    b ∙ ap (λ x. x || yields (extract_or_clause d u.rhs)) (sym c.if-extract_or_clause.false ∙ a) ∙ and_yields d u

pub returns-then-extract_or_clause-2 : goal.returns-then-extract_or_clause-2
returns-then-extract_or_clause-2 g t c =
    λ e ns d h g held k.
    let u = sides_or c.in-Some.ensures e h c.in-Or.is in
    let a = c.extract_or_clause-in-Or.ensures u.lhs ns d u.left g (held_left u (has ns) held) k in
    let b = c.extract_or_clause-then-extract_or_clause-2.ensures u.rhs ns d u.right g (held_right u (has ns) held) k in
    b ∙ ap (λ x. x && yields (extract_or_clause d u.rhs)) (sym c.if-extract_or_clause-2.true ∙ a) ∙ or_yields d u

pub returns-else-extract_or_clause-2 : goal.returns-else-extract_or_clause-2
returns-else-extract_or_clause-2 g t c =
    λ e ns d h g held k.
    let u = sides_or c.in-Some.ensures e h c.in-Or.is in
    let a = c.extract_or_clause-in-Or.ensures u.lhs ns d u.left g (held_left u (has ns) held) k in
    rw c.if-extract_or_clause-2.false
    (ap (λ x. x && yields (extract_or_clause d u.rhs)) (sym c.if-extract_or_clause-2.false ∙ a) ∙ or_yields d u)
