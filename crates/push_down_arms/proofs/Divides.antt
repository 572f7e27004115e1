-- A plan with some conjuncts above it and some below it: its lists, and what is written for it.
--     filters_list     the lists of a plan under a list of conjuncts
--     pushed_few, -many   the lists of the answer: only what moved can be too long, once its columns are replaced
-- Assumes nothing.
use Rattle.std.specs.Prelude.{None}
use Prim.Native.Nat.{ℕ, suc, ◌≤◌, ◌<◌, max as larger}
use native.Mathlib.Omega.{arith}
use native.Mathlib.Nat.{max-le, le_trans, le_of_eq, le-max_left, le-max_right}
use mathlib.Core.Path.{◌≡◌, refl, sym, ap, ap₂, ◌∙◌}
use mathlib.Core.Bool.{not}
use mathlib.Core.List.{List, [], ◌∷◌, ◌++◌, map, append_assoc, append-nil}
use lib.Dec.{eqb}
use lib.ListN.{length}
use borrow.Author.Tests.{ne_eqb}
use Rattle.image.specs.Limits.{max_list}
use Rattle.plan.specs.Lists.{flatten, anil, acons}
use Rattle.plan.specs.Syntax.{Name, Expr, bin, and, Plan}
use Rattle.rewrite.specs.Limits.{list_p}
use Rattle.rewrite.specs.Utils.{replace_cols, split_conjunction, conjoin, conjunction, with_filters, is_empty}
use Rattle.conjuncts.specs.Items.{Conjuncts, Lists}
use Rattle.conjuncts.proofs.Listed.{lists_length}
use Rattle.writing.specs.Pushed.{Pushes}
use Rattle.writing.specs.Maps.{map_of}
use Rattle.writing.proofs.Pushing.{pushes_of}
use Rattle.push_down_arms.specs.Over.{under}
use Rattle.push_down_base.specs.Predicates.{Perhaps}
use Rattle.push_down_base.specs.Arms.{Placed, Takes}
use Rattle.push_down_arms.specs.Divided.{Divided, Singles, Divides, pushed, parts}
use Rattle.push_down_arms.proofs.Shaping.{under_list, list_perhaps}
use Rattle.push_down_arms.proofs.Changes.{pushes_small, map_count}

-- ---- the conjuncts of a list that is joined

joined_parts : (e : Expr) (es : List Expr) → split_conjunction (conjoin e es) ≡ split_conjunction e ++ flatten split_conjunction es
unfolding conjoin split_conjunction flatten
joined_parts e [] = sym (append-nil (split_conjunction e))
joined_parts e (x ∷ xs) = joined_parts (bin and e x) xs ∙ append_assoc (split_conjunction e) (split_conjunction x) (flatten split_conjunction xs)

pub filters_list : (es : List Expr) (p : Plan) → list_p (with_filters es p) ≡ larger (length (flatten split_conjunction es)) (list_p p)
unfolding list_p with_filters flatten
filters_list [] p = omega arith
filters_list (e ∷ es) p = ap (λ l. larger (length l) (list_p p)) (joined_parts e es)

replaced_parts : (σ : Name → Expr) (es : List Expr) → length (flatten split_conjunction (map (replace_cols σ) es)) ≡ parts σ es
unfolding flatten
replaced_parts σ es = ap length (go es)
  where
    go : (es : List Expr) → flatten split_conjunction (map (replace_cols σ) es) ≡ flatten (λ e. split_conjunction (replace_cols σ e)) es
    go [] = refl
    go (e ∷ es) = ap (split_conjunction (replace_cols σ e) ++◌) (go es)

-- those that are none are as many as they are
single_parts : {es : List Expr} → Singles es → length (flatten split_conjunction es) ≡ length es
unfolding flatten
single_parts anil = refl
single_parts (acons {xs = xs} h hs) = ap (λ l. length (l ++ flatten split_conjunction xs)) h ∙ ap suc (single_parts hs)

-- ---- the lists of the answer

module _ {s : List ℕ} {x : ℕ} {d : Divided} {f : Plan → Plan} {q : Plan} {us ds : List Expr}
    (h : Placed s x (f q)) (t : Takes s x f q) (k : Divides s d us ds) where
  lists_is : list_p (pushed f q us ds).plan ≡ larger (length us) (larger (parts (map_of (f q)) ds) (list_p q))
  lists_is =
      filters_list us _ ∙ ap₂ larger (single_parts k.kept_single)
      (t.lists _ ∙ filters_list (map (replace_cols (map_of (f q))) ds) q ∙ ap (λ n. larger n (list_p q)) (replaced_parts (map_of (f q)) ds))

  pub pushed_few : parts (map_of (f q)) ds ≤ max_list → list_p (pushed f q us ds).plan ≤ max_list
  pushed_few small =
      le_trans (le_of_eq lists_is) (max-le (le_trans (le_of_eq (lists_length k.kept k.kept_most)) k.kept_most)
      (max-le small (le_trans (le_of_eq (sym (t.lists q))) h.lists)))

  pub pushed_many : max_list < parts (map_of (f q)) ds → max_list < list_p (pushed f q us ds).plan
  pushed_many many = le_trans many (le_trans (le_trans (le-max_left _ _) (le-max_right (length us) _)) (le_of_eq (sym lists_is)))

-- the flag: something moves
pub some_moved : {s : List ℕ} {c : Conjuncts} (es : List Expr) → Lists s c es → c.len ≤ max_list → not (eqb c.len 0) ≡ not (is_empty es)
some_moved [] h m = rw (← lists_length h m)
some_moved {c = c} (e ∷ es) h m = ap not (ne_eqb c.len 0 (λ z. omega (arith, lists_length h m)))

-- ---- what is written

module _ {s : List ℕ} {d : Divided} {us ds : List Expr} (k : Divides s d us ds) (σ : Name → Expr) where
  pub kept_perhaps : Perhaps s σ (record { written = None; list = d.kept }) (conjunction us)
  kept_perhaps = list_perhaps d.kept us k.kept_most (pushes_of k.kept)

  module _ {c : Conjuncts} (h : Pushes s σ c (map (replace_cols σ) ds)) where
    pub moved_small : c.len ≤ max_list
    moved_small =
        pushes_small h (le_trans (le_of_eq (map_count (replace_cols σ) ds ∙ lists_length k.moved k.moved_most)) k.moved_most)

    pub moved_perhaps : Perhaps s σ (record { written = None; list = c }) (conjunction (map (replace_cols σ) ds))
    moved_perhaps = list_perhaps c (map (replace_cols σ) ds) moved_small h

pub pushed_is : (f : Plan → Plan) (q : Plan) (us ds : List Expr)
    → under (conjunction us) (f (under (conjunction (map (replace_cols (map_of (f q))) ds)) q)) ≡ (pushed f q us ds).plan
pushed_is f q us ds = under_list us _ ∙ ap (λ p. with_filters us (f p)) (under_list (map (replace_cols (map_of (f q))) ds) q)
