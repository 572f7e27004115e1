-- Sets of the fields of a schema, by place: those that pass a test, and those that an expression refers to.
use Rattle.std.specs.Prelude.{◌≡◌, Bool, false, List, ℕ, ◌≤◌, ◌<◌, length, get_or}
use Rattle.image.specs.Limits.{max_fields}
use Rattle.plan.specs.Syntax.{Name, nm, Expr}
use Rattle.plan.specs.Columns.{on_cols}
use Rattle.utils.specs.Sets.{member, within}

-- the name with this place
abbrev pub name_at : List Name → ℕ → Name
name_at ns i = get_or ns i (nm 0 0)

-- m is the set of the places whose names pass the test c
pub record Masks (m : ℕ) (ns : List Name) (c : Name → Bool) : Type 0 where
  pub small : m < 18446744073709551616
  pub marks : (i : ℕ) → i < length ns → member m i ≡ c (name_at ns i)
  pub beyond : (i : ℕ) → length ns ≤ i → member m i ≡ false

-- v is a set of places: it is within the set of any test exactly if what `on` asks of that test holds
pub record Answers (v : ℕ) (ns : List Name) (on : (Name → Bool) → Bool) : Type 0 where
  pub says : (m : ℕ) (c : Name → Bool) → Masks m ns c → within max_fields v m ≡ on c

-- v is the set of the places of the columns of e: every column passes a test exactly if v is within the set of that test
abbrev pub Refers : ℕ → List Name → Expr → Type 0
Refers v ns e = Answers v ns (λ c. on_cols c e)
