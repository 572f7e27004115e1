-- `simplify_predicates::comes_after` meets its contract.
use Rattle.std.proofs.Common.{rules}
use Rattle.simplify_expressions.specs.Seen.{named}
use Rattle.simplify_expressions.proofs.Sides.{and_is}
use Rattle.simplify_expressions.proofs.Comparing.{after_by}
use Rattle.simplify_expressions.proofs.simplify_predicates.comes_after.Goals as goal

pub returns : goal.returns
returns c = after_by _ c.args.last (named c.args.x) _ c.is_none_or.ensures (λ l k. rw and_is (search rules))
