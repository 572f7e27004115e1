-- The form test, of a chain of siblings.
use Rattle.std.specs.Prelude.{ℕ}
use Rattle.image.specs.Tree.{Forest}
use Rattle.image.specs.Lowest.{Found, lowest}
use Rattle.plan.specs.Form.{form_ok}

-- the lowest record of the wrong form, of a forest whose first record has the number b
abbrev pub misformed : ℕ → Forest → Found
misformed b f = lowest {C = Unit {0}} (λ c l cs. form_ok l cs) (λ c l cs. (c, c)) tt tt b f
