-- Laws of a side's list that is written item by item.
--     sides_length, -room, -at  of a whole list: how many, that each can be read, what is written for the number read at i
-- Assumes nothing.
use mathlib.Core.Path.{◌≡◌, ap, ◌∙◌}
use mathlib.Core.Bool.{Bool}
use mathlib.Core.List.{List}
use Prim.Native.Nat.{ℕ, ◌≤◌, ◌<◌}
use native.Mathlib.Omega.{arith}
use lib.ListN.{length, get_or}
use Rattle.image.specs.Limits.{max_list}
use Rattle.plan.specs.Syntax.{Name, Expr}
use Rattle.conjuncts.specs.Items.{Conjuncts, FALSE, listed}
use Rattle.conjuncts.proofs.Listed.{count_is, whole}
use Rattle.writing.proofs.Pushing.{each_length, each_at}
use Rattle.push_down_join.specs.Sides.{Sided, Sides, OneSided, SomeSided}

-- of a list that is whole
module _ {s : List ℕ} {σ : Name → Expr} {ns : List Name} {t : Name → Bool} {c : Conjuncts} {es : List Expr} (h : Sides s σ ns t c es)
    (small : c.len ≤ max_list) where
  pub sides_length : length es ≡ c.len
  sides_length = each_length h.items ∙ count_is h.holds small

  pub sides_room : length (listed c) ≡ c.len
  sides_room = ap length (whole h.holds small) ∙ count_is h.holds small

  pub sides_at : (i n : ℕ) → i < c.len → n ≡ get_or (listed c) i 0 → Sided s σ ns t n (get_or es i FALSE)
  sides_at i n lt e = rw (e, whole h.holds small) (each_at i h.items (omega (arith, count_is h.holds small)))

-- an item of a list that is written
pub one_sided_of : {s : List ℕ} {c : Conjuncts} (h : SomeSided s c) (i n : ℕ) → i < c.len → n ≡ get_or (listed c) i 0 → OneSided s n
one_sided_of h i n lt e =
    record { mapping = h.mapping; names = h.names; test = h.test; expr = get_or h.exprs i FALSE; sided = sides_at h.sides h.most i n lt e }
