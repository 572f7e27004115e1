-- A list of conjuncts that is too long is of many.
-- Assumes nothing.
use mathlib.Core.Path.{◌≡◌, refl, ap}
use mathlib.Core.List.{List}
use Prim.Native.Nat.{ℕ, suc, ◌≤◌, ◌<◌}
use native.Mathlib.Omega.{arith}
use lib.ListN.{length}
use Rattle.image.specs.Limits.{max_list}
use Rattle.plan.specs.Syntax.{Expr}
use Rattle.conjuncts.specs.Items.{Conjuncts, most, Holds, Items, inil, icons, Lists}

-- of many numbers
holds_long : {c : Conjuncts} {xs : List ℕ} → Holds c xs → max_list < c.len → max_list ≤ length xs
unfolding most
holds_long h many = omega (arith, h.count)

module _ {s : List ℕ} where
  items_length : {ns : List ℕ} {es : List Expr} → Items s ns es → length es ≡ length ns
  items_length inil = refl
  items_length (icons h hs) = ap suc (items_length hs)

  pub lists_long : {c : Conjuncts} {es : List Expr} → Lists s c es → max_list < c.len → max_list ≤ length es
  lists_long h many = rw (items_length h.items) (holds_long h.holds many)
