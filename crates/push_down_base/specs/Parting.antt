-- Lists of conjuncts parted by the fields that they refer to.
use Rattle.std.specs.Prelude.{◌≡◌, Bool, true, List, ℕ, ◌<◌, ◌≤◌, length, get_or}
use Rattle.image.specs.Limits.{max_list}
use Rattle.plan.specs.Syntax.{Name, Expr}
use Rattle.plan.specs.Columns.{on_cols}
use Rattle.plan.specs.Schema.{has}
use Rattle.plan.specs.Lists.{All}
use Rattle.conjuncts.specs.Items.{Conjuncts, FALSE, Item, Known, Lists, Present}

-- a test may be asked of each item of the list c, and of any other of its image: `pre` says of which numbers it may
pub record Tested (pre : ℕ → Type 0) (c : Conjuncts) : Type 0 where
  pub image : List ℕ
  pub known : Known image c
  pub callable : (n : ℕ) → Present image n → pre n

-- what a test answers of an item of the list es is whether it passes t
pub record Tells (s : List ℕ) (post : ℕ → Bool → Type 0) (t : Expr → Bool) (es : List Expr) : Type 0 where
  pub tells : (i n : ℕ) (b : Bool) → i < length es → Item s n (get_or es i FALSE) → post n b → b ≡ t (get_or es i FALSE)

-- the list c is es, whole, and reads ns
pub record Reads (s : List ℕ) (ns : List Name) (c : Conjuncts) (es : List Expr) : Type 0 where
  pub lists : Lists s c es
  pub over : All (λ e. on_cols (has ns) e ≡ true) es
  pub most : c.len ≤ max_list
