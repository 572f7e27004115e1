use Rattle.push_down_join.proofs.Siding.{sides_nothing, sides_made}
use Rattle.push_down_join.proofs.extract_or_clause.add_clause.Goals as goal

pub returns-then-or_clause_at : goal.returns-then-or_clause_at
returns-then-or_clause_at c =
    λ σ ns t es e h i k held m. sides_made e h (c.or_clause_at.ensures e ns t i k held m) c.if-or_clause_at.true i held c.add.ensures

pub returns : goal.returns
returns c =
    λ σ ns t es e h i k held m. sides_nothing e h (c.or_clause_at.ensures e ns t i k held m) c.if-or_clause_at.false
