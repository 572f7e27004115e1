-- `visits::next_plan` meets its contract.
use Rattle.std.proofs.Common.{rules}
use Rattle.std.proofs.lemmas.Iterator.{first_from_Range, serves_from_Range}
use Rattle.pass.proofs.Steps.{searched}
use Rattle.pass.proofs.visits.next_plan.Goals as goal

pub find-requires-clause-callable : goal.find-requires-clause-callable
find-requires-clause-callable c =
    serves_from_Range (λ x q k. search rules) (λ x l h. search rules)

pub returns : goal.returns
returns c =
    λ q a. rw c.unwrap_or.ensures (searched a c.args.from c.find.result
    (first_from_Range _ _ _ _ _ _ c.find.ensures.ran (λ i f k. search rules) (λ i f k. search rules)))
