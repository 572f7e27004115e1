-- `words::Comparison::of` meets its contract.
use mathlib.Core.Path.{refl}
use native.Mathlib.Omega.{arith}
use borrow.Author.Tests.{ne_eqb}
use Rattle.plan.proofs.words.Comparison.of.Goals as goal

pub returns-in_default : goal.returns-in_default
returns-in_default c =
    rw (
      ne_eqb c.args.word 4 (λ e. omega arith),
      ne_eqb c.args.word 5 (λ e. omega arith),
      ne_eqb c.args.word 6 (λ e. omega arith),
      ne_eqb c.args.word 7 (λ e. omega arith),
      ne_eqb c.args.word 8 (λ e. omega arith),
    ) refl
