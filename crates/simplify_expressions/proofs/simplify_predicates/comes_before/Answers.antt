-- `simplify_predicates::comes_before` meets its contract.
use Rattle.std.proofs.Common.{rules}
use Rattle.simplify_expressions.specs.Seen.{named}
use Rattle.simplify_expressions.proofs.Sides.{and_is}
use Rattle.simplify_expressions.proofs.Comparing.{precedes_by}
use Rattle.simplify_expressions.proofs.simplify_predicates.comes_before.Goals as goal

pub returns : goal.returns
returns c = precedes_by _ c.args.best (named c.args.x) _ c.is_some_and.ensures (λ l k. rw and_is (search rules))
