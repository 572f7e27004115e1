-- What a test says, and when a predicate is joined left-deep.
use Rattle.std.specs.Prelude.{◌≡◌, Bool, true, false}
use Rattle.std.proofs.Math.Option.{some}
use Rattle.plan.specs.Syntax.{Expr}
use Rattle.rewrite.specs.Utils.{split_conjunction, conjunction}

-- b says whether it holds
pub record Says (b : Bool) (A : Type 0) : Type 0 where
  pub yes : b ≡ true → A
  pub no : b ≡ false → A → ⊥

-- a predicate is joined left-deep: its conjuncts joined again are as it was
abbrev pub LeftDeep : Expr → Type 0
LeftDeep e = conjunction (split_conjunction e) ≡ some e
