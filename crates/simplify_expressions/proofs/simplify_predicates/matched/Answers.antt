-- `simplify_predicates::matched` meets its contract.
use Rattle.std.proofs.Common.{rules}
use Rattle.simplify_expressions.specs.Seen.{matched_in}
use Rattle.simplify_expressions.proofs.Comparing.{first_seen}
use Rattle.simplify_expressions.proofs.simplify_predicates.matched.Goals as goal

pub returns : goal.returns
unfolding matched_in
returns c = first_seen _ c.bound_by.result c.or_else.result c.bound_by.ensures c.or_else.ensures (λ k. search rules)
