-- The depth test, of a chain of siblings.
use Rattle.std.specs.Prelude.{ℕ, ◌+◌, leb}
use Rattle.image.specs.Tree.{Forest}
use Rattle.image.specs.Limits.{max_depth}
use Rattle.image.specs.Lowest.{Found, lowest}

-- the lowest record that is too deep, of a forest at the depth d whose first record has the number b
abbrev pub deepest : ℕ → ℕ → Forest → Found
deepest d b f = lowest (λ d l cs. leb d max_depth) (λ d l cs. (d + 1, d + 1)) d d b f
