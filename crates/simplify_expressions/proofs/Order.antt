-- Laws of cheap and expensive predicates, for a walk along a list.
-- Assumes nothing.
use mathlib.Core.Path.{◌≡◌, refl}
use mathlib.Core.Bool.{Bool, true, false, ◌||◌, not}
use mathlib.Core.List.{List, [], ◌∷◌}
use Prim.Native.Nat.{ℕ, ◌+◌, ◌<◌}
use lib.ListN.{length, get_or, drop}
use Rattle.plan.specs.Syntax.{Expr}
use Rattle.plan.specs.Lists.{◌&◌, choose, any}
use Rattle.rewrite.specs.Utils.{any_fn, is_volatile_expr}
use Rattle.rewrite.specs.ReorderPredicates.{is_cheap_predicate, needs_reorder, unchanged, cheap_first, reorder_predicates}
use Rattle.conjuncts.specs.Items.{FALSE}
use Rattle.conjuncts.specs.Functions.{marked}
use Rattle.conjuncts.specs.declared.volatility.Functions.TheVariants.{All}
use Rattle.conjuncts.proofs.Listed.{next}

-- whether a list needs reordering, by whether the one before it is expensive
abbrev pub after_cost : Bool → List Expr → Bool
after_cost b [] = false
after_cost b (e ∷ es) = (b & is_cheap_predicate e) || needs_reorder (e ∷ es)

pub after_first : (es : List Expr) → needs_reorder es ≡ after_cost false (drop 0 es)
unfolding needs_reorder ◌&◌
after_first [] = refl
after_first (e ∷ es) = refl

needs_one : (e : Expr) (es : List Expr) → needs_reorder (e ∷ es) ≡ after_cost (not (is_cheap_predicate e)) es
unfolding needs_reorder ◌&◌
needs_one e [] = refl
needs_one e (f ∷ es) = refl

not_not : (b : Bool) → not (not b) ≡ b
not_not true = refl
not_not false = refl

-- the one at i is expensive, or not
pub after_next : (es : List Expr) (i : ℕ) → i < length es → (b v : Bool) → v ≡ any_fn (marked All) (get_or es i FALSE)
    → after_cost b (drop i es) ≡ ((b & not v) || after_cost v (drop (i + 1) es))
after_next es i h b v e = rw (next es i h, needs_one (get_or es i FALSE) (drop (i + 1) es), not_not, e)

-- ---- what a list comes to

module _ (es : List Expr) where
  pub volatile_stays : true ≡ any is_volatile_expr es → reorder_predicates es ≡ unchanged es
  unfolding reorder_predicates choose
  volatile_stays v = rw (← v)

  pub ordered_stays : false ≡ needs_reorder es → reorder_predicates es ≡ unchanged es
  unfolding reorder_predicates choose
  ordered_stays n = go (any is_volatile_expr es)
    where
      go : (v : Bool) → choose v (unchanged es) (choose (needs_reorder es) (cheap_first es) (unchanged es)) ≡ unchanged es
      go true = refl
      go false = rw (← n)

  pub reordered : false ≡ any is_volatile_expr es → true ≡ needs_reorder es → reorder_predicates es ≡ cheap_first es
  unfolding reorder_predicates choose
  reordered v n = rw (← v, ← n)
