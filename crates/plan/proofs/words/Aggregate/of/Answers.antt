-- `words::Aggregate::of` meets its contract.
use mathlib.Core.Path.{sym}
use native.Mathlib.Omega.{arith}
use Rattle.plan.proofs.Nth.{nth_first}
use Rattle.plan.proofs.words.Aggregate.of.Goals as goal

pub returns-in_default : goal.returns-in_default
returns-in_default c = sym (nth_first _ _ c.args.word (λ a b. omega arith))
