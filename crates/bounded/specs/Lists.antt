-- A list of fixed room, as a list: what stands in it.
use Rattle.std.specs.Prelude.{◌≡◌, List, ℕ, ◌+◌, ◌-◌, length, take}
use Rattle.bounded.specs.declared.Bounded.{Bounded}

-- n, and one more than there is room for at most
unfoldable pub most : ℕ → ℕ → ℕ
most room n = n - (n - (room + 1))

module _ {T : Type 0} {N : ℕ} where
  -- what stands in the list's array
  abbrev pub listed : Bounded T N → List T
  listed c = take c.len c.at

  -- c holds the list xs, or as much of it as there is room for
  pub record Holds (c : Bounded T N) (xs : List T) : Type 0 where
    pub lists : listed c ≡ take N xs
    pub count : c.len ≡ most N (length xs)
