-- What the code's reordering of a list is.
use Rattle.std.specs.Prelude.{◌≡◌, true, false, List, ℕ, Option, Some, None}
use Rattle.plan.specs.Syntax.{Expr}
use Rattle.conjuncts.specs.Items.{Conjuncts, Lists}
use Rattle.rewrite.specs.ReorderPredicates.{Reordered}

-- a new list where the order of es changed, else none
abbrev pub Reorders : List ℕ → Option Conjuncts → List Expr → Reordered → Type 0
Reorders s (Some c) es r = Lists s c r.predicates × (r.changed ≡ true)
Reorders s None es r = (r.predicates ≡ es) × (r.changed ≡ false)
