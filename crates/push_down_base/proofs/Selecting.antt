-- A list parted, item by item.
use Prim.Native.Nat.{ℕ, zero, suc, ◌<◌, ◌≤◌}
use native.Mathlib.Omega.{arith}
use mathlib.Core.Path.{◌≡◌, refl, ap}
use mathlib.Core.Bool.{Bool, true, false, not}
use mathlib.Core.List.{List, [], ◌∷◌}
use lib.ListN.{length, get_or}
use Rattle.plan.specs.Syntax.{Name, Expr}
use Rattle.plan.specs.Columns.{on_cols}
use Rattle.plan.specs.Lists.{put, keep, All, anil, acons}
use Rattle.plan.specs.Schema.{has}
use Rattle.plan.proofs.Lists.{keep_all}
use Rattle.rewrite.specs.PushDownFilter.{push_to, push_not}
use Rattle.conjuncts.specs.Items.{FALSE, Conjuncts, Lists, listed}
use Rattle.conjuncts.proofs.Listed.{lists_length, lists_room}
use Rattle.image.specs.Limits.{max_list}

-- what holds of all holds at a place
pub all_at : {P : Expr → Type 0} {es : List Expr} (i : ℕ) → All P es → i < length es → P (get_or es i FALSE)
all_at i anil lt = absurd (omega arith)
all_at zero (acons h hs) lt = h
all_at (suc i) (acons h hs) lt = all_at i hs (omega arith)

-- a walk along the items of a list that has met them all has met each expression
pub walk_past : {s : List ℕ} {c : Conjuncts} {es : List Expr} → Lists s c es → c.len ≤ max_list → {items : List ℕ} → items ≡ listed c
    → {i : ℕ} → length items ≤ i → length es ≤ i
walk_past h small is le = omega (arith, le, ap length is, lists_room h small, lists_length h small)

-- ---- what moves to a side that is preserved, or not

none_kept : {A : Type 0} (xs : List A) → keep (λ x. false) xs ≡ []
unfolding keep put
none_kept [] = refl
none_kept (x ∷ xs) = none_kept xs

module _ (b : Bool) (names : List Name) (es : List Expr) where
  pub push_open : b ≡ true → push_to b names es ≡ keep (λ e. on_cols (has names) e) es
  unfolding push_to
  push_open e = rw e

  pub push_shut : b ≡ false → push_to b names es ≡ []
  unfolding push_to
  push_shut e = rw e (none_kept es)

  pub stay_open : b ≡ true → push_not b names es ≡ keep (λ e. not (on_cols (has names) e)) es
  unfolding push_not
  stay_open e = rw e

  pub stay_shut : b ≡ false → push_not b names es ≡ es
  unfolding push_not
  stay_shut e = rw e (keep_all es)
