-- Plans that stand in an image.
use Rattle.std.specs.Prelude.{List, ℕ}
use Rattle.plan.specs.Syntax.{Plan}
use Rattle.conjuncts.specs.Standing.{StandingP}

-- some plan stands at record n
pub record ThereP (s : List ℕ) (n : ℕ) : Type 0 where
  pub plan : Plan
  pub standing : StandingP s n plan
