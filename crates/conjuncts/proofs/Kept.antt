-- A loop that appends to a list those of another that pass a test: `kept_start` before it, `kept_next` in it, `kept_end` after it.
-- Assumes nothing.
use mathlib.Core.Path.{◌≡◌, refl, sym, ◌∙◌}
use mathlib.Core.Bool.{Bool}
use mathlib.Core.List.{List, [], ◌++◌, append-nil, append_assoc}
use Prim.Native.Nat.{ℕ, ◌+◌, ◌≤◌, ◌<◌}
use lib.ListN.{length, get_or, drop}
use Rattle.plan.specs.Syntax.{Expr}
use Rattle.plan.specs.Lists.{put, keep}
use Rattle.conjuncts.specs.Items.{Conjuncts, FALSE, Item, Lists}
use Rattle.conjuncts.proofs.Listed.{keep_next, put_then, at_end}

-- r lists what of fs and of the first i of es is to be listed
pub record Kept (s : List ℕ) (r : Conjuncts) (fs : List Expr) (test : Expr → Bool) (es : List Expr) (i : ℕ) : Type 0 where
  pub done : List Expr
  pub lists : Lists s r done
  pub is : done ++ keep test (drop i es) ≡ fs ++ keep test es

module _ {s : List ℕ} {r : Conjuncts} {fs : List Expr} (test : Expr → Bool) (es : List Expr) where
  pub kept_start : Lists s r fs → Kept s r fs test es 0
  kept_start h = record { done = fs; lists = h; is = refl }

  -- the item x, that is the i-th, is appended if v, by `add_if`
  pub kept_next : {r' : Conjuncts} {x : ℕ} (i : ℕ) → Kept s r fs test es i → i < length es → (v : Bool) → test (get_or es i FALSE) ≡ v
      → Item s x (get_or es i FALSE) → ((t : List ℕ) (ds : List Expr) (e : Expr) → Lists t r ds → Item t x e → Lists t r' (ds ++ put v e []))
      → Kept s r' fs test es (i + 1)
  kept_next i k lt v e item add =
      record {
        done = k.done ++ put v (get_or es i FALSE) [];
        lists = add s k.done (get_or es i FALSE) k.lists item;
        is = rw (append_assoc, put_then) (rw (keep_next test es i lt v e) at k.is);
      }

  pub kept_end : (i : ℕ) → Kept s r fs test es i → length es ≤ i → Lists s r (fs ++ keep test es)
  unfolding keep
  kept_end i k n =
      let e : k.done ≡ fs ++ keep test es = sym (append-nil k.done) ∙ (rw (at_end es i n) at k.is) in
      rw (← e) k.lists
