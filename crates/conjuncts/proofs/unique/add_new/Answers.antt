-- `unique::add_new` meets its contract.
use borrow.Author.Rules.{rules}
use Rattle.conjuncts.proofs.Listed.{lists_full}
use Rattle.conjuncts.proofs.unique.add_new.Goals as goal

pub returns-then-is_too_long : goal.returns-then-is_too_long
returns-then-is_too_long c =
    λ es e h k. lists_full _ h k (c.is_too_long.ensures.len.0 (search rules))
