-- Laws of lists of conjuncts over some fields.
--     known_reads  such a list is whole
--     reads_keep   so is what is kept of it
--     reads_none   and an empty one
-- Assumes nothing.
use mathlib.Core.Path.{◌≡◌}
use mathlib.Core.Bool.{Bool, true, false}
use mathlib.Core.List.{List, [], ◌∷◌}
use Prim.Native.Nat.{ℕ, suc, ◌≤◌}
use native.Mathlib.Omega.{arith}
use native.Mathlib.Nat.{le_refl}
use lib.ListN.{length}
use Rattle.plan.specs.Lists.{put, keep, anil}
use Rattle.plan.specs.Syntax.{Name, Expr}
use Rattle.plan.proofs.Lists.{All-keep}
use Rattle.conjuncts.specs.Items.{Conjuncts, listed, Lists, Known}
use Rattle.conjuncts.proofs.Listed.{lists_none, lists_length, known_of}
use Rattle.push_down_base.specs.Parting.{Reads}

pub keep_length : {A : Type 0} (f : A → Bool) (xs : List A) → length (keep f xs) ≤ length xs
unfolding keep put
keep_length f [] = le_refl 0
keep_length f (x ∷ xs) = go (f x) (keep_length f xs)
  where
    go : (b : Bool) → length (keep f xs) ≤ length xs → length (put b x (keep f xs)) ≤ suc (length xs)
    go true h = omega arith
    go false h = omega arith

module _ {s : List ℕ} {ns : List Name} where
  pub known_reads : {c : Conjuncts} {es : List Expr} → Reads s ns c es → Known s c
  known_reads {es = es} h = record { exprs = es; lists = h.lists; most = h.most }

  pub reads_keep : {c r : Conjuncts} {es : List Expr} (f : Expr → Bool) → Reads s ns c es → Lists s r (keep f es) → Reads s ns r (keep f es)
  reads_keep {es = es} f h k = record {
    lists = k;
    over = All-keep f h.over;
    most = (known_of k (omega (arith, keep_length f es, lists_length h.lists h.most))).most;
  }

  pub reads_none : {c : Conjuncts} → (listed c ≡ []) × (c.len ≡ 0) → Reads s ns c []
  reads_none h = record { lists = lists_none h; over = anil; most = omega (arith, h.1) }
