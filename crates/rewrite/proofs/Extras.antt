-- What a join's rewrite adds to a side: clauses taken out of ORs, and predicates inferred through the keys.
-- Both are implied by what stands there, and that is all that the rows need.
use Prim.Native.Nat.{ℕ}
use native.Mathlib.Nat.{le_antisymm}
use mathlib.Core.Path.{◌≡◌, refl, sym, ap, ◌∙◌, fun_ext}
use mathlib.Core.Bool.{Bool, true, false, not, ◌||◌, cond}
use mathlib.Core.List.{List, [], ◌∷◌}
use mathlib.Core.Option.{Option, none, some}
use lib.Dec.{leb}
use lib.IntN.{ℤ, pos, negsuc}
use lib.Signed.{le_z}
use borrow.Author.Tests.{leb-true}
use Rattle.plan.specs.Lists.{◌&◌, keep, all, flatten, All, anil, acons}
use Rattle.plan.proofs.Lists.{and_l, and_r, All-append, all_cong, all_parts, all_append, all_map, all_of, and_intro}
use Rattle.plan.specs.Syntax.{Value, null, int, truth, eq, Name, Expr, col, num, bool, nul, bin, and, or, cmp, neg, test, between, inlist}
use Rattle.plan.specs.Syntax.{fn, Pair}
use Rattle.meaning.specs.Meaning.{World, Env, is_t, compared, eval}
use Rattle.meaning.proofs.Logic.{is_t_tri}
use Rattle.plan.specs.Schema.{same}
use Rattle.plan.proofs.Names.{same_eq}
use Rattle.plan.specs.Columns.{on_cols}
use Rattle.rewrite.specs.Utils.{replace_cols}
use Rattle.rewrite.specs.SimplifyPredicates.{as_column}
use Rattle.rewrite.specs.PushDownFilter.{both_or, either_and_option, guarded, extract_or_clause, is_or, listed, extract_or_clauses_for_join}
use Rattle.rewrite.specs.PushDownFilter.{pair_of, partner, to_partner, swap_keys, no_partner, infer_join_predicates, rest}
use Rattle.rewrite.proofs.Exprs.{eval_sub}

-- ---- clauses out of ORs

module _ (c : Name → Bool) where
  -- a clause reads the side's columns, and is TRUE where the predicate is
  record Clause (e x : Expr) : Type 0 where
    reads_side : on_cols c x ≡ true
    implied : (W : World) (ρ : Env) → is_t (eval W ρ e) ≡ true → is_t (eval W ρ x) ≡ true

  Found : Expr → Option Expr → Type 0
  Found e none = Unit {0}
  Found e (some x) = Clause e x

  found_guarded : (e : Expr) (b : Bool) → on_cols c e ≡ b → Found e (guarded b e)
  unfolding Found guarded
  found_guarded e true h = record { reads_side = h; implied = λ W ρ t. t }
  found_guarded e false h = tt

  or_mono : (a b x y : Bool) → (a ≡ true → x ≡ true) → (b ≡ true → y ≡ true) → a || b ≡ true → x || y ≡ true
  or_mono true b x y f g h = rw (f refl)
  or_mono false b true y f g h = refl
  or_mono false b false y f g h = g h

  and_mono : (a b x y : Bool) → (a ≡ true → x ≡ true) → (b ≡ true → y ≡ true) → a & b ≡ true → x & y ≡ true
  unfolding ◌&◌
  and_mono true b x y f g h = rw (f refl) (g h)
  and_mono false b x y f g h = cc

  found_or : (a b : Expr) (o p : Option Expr) → Found a o → Found b p → Found (bin or a b) (both_or o p)
  unfolding Found both_or on_cols eval
  found_or a b none p f g = tt
  found_or a b (some x) none f g = tt
  found_or a b (some x) (some y) f g = record {
    reads_side = and_intro f.reads_side g.reads_side;
    implied = λ W ρ t. is_t_tri _ _ ∙ or_mono _ _ _ _ (f.implied W ρ) (g.implied W ρ) (sym (is_t_tri _ _) ∙ t);
  }

  found_and : (a b : Expr) (o p : Option Expr) → Found a o → Found b p → Found (bin and a b) (either_and_option o p)
  unfolding Found either_and_option on_cols eval
  found_and a b none none f g = tt
  found_and a b none (some y) f g = record {
    reads_side = g.reads_side;
    implied = λ W ρ t. g.implied W ρ (and_r _ _ (sym (is_t_tri _ _) ∙ t));
  }
  found_and a b (some x) none f g = record {
    reads_side = f.reads_side;
    implied = λ W ρ t. f.implied W ρ (and_l _ _ (sym (is_t_tri _ _) ∙ t));
  }
  found_and a b (some x) (some y) f g = record {
    reads_side = and_intro f.reads_side g.reads_side;
    implied = λ W ρ t. is_t_tri _ _ ∙ and_mono _ _ _ _ (f.implied W ρ) (g.implied W ρ) (sym (is_t_tri _ _) ∙ t);
  }

  found : (e : Expr) → Found e (extract_or_clause c e)
  unfolding extract_or_clause
  found (bin and a b) = found_and a b _ _ (found a) (found b)
  found (bin or a b) = found_or a b _ _ (found a) (found b)
  found (bin (cmp o) a b) = found_guarded (bin (cmp o) a b) _ refl
  found (col x) = found_guarded (col x) _ refl
  found (num z) = found_guarded (num z) _ refl
  found (bool b) = found_guarded (bool b) _ refl
  found (nul t) = found_guarded (nul t) _ refl
  found (neg a) = found_guarded (neg a) _ refl
  found (test t a) = found_guarded (test t a) _ refl
  found (between n a l u) = found_guarded (between n a l u) _ refl
  found (inlist n a xs) = found_guarded (inlist n a xs) _ refl
  found (fn p q r xs) = found_guarded (fn p q r xs) _ refl

  one_over : (e : Expr) (o : Option Expr) → Found e o → All (λ x. on_cols c x ≡ true) (listed o)
  unfolding Found listed
  one_over e none f = anil
  one_over e (some x) f = acons f.reads_side anil

  one_holds : (W : World) (ρ : Env) (e : Expr) (o : Option Expr) → Found e o → is_t (eval W ρ e) ≡ true
      → all (λ x. is_t (eval W ρ x)) (listed o) ≡ true
  unfolding Found listed all ◌&◌
  one_holds W ρ e none f h = refl
  one_holds W ρ e (some x) f h = rw (f.implied W ρ h)

  over_flat : (es : List Expr) → All (λ x. on_cols c x ≡ true) (flatten (λ e. listed (extract_or_clause c e)) es)
  unfolding flatten
  over_flat [] = anil
  over_flat (e ∷ es) = All-append (one_over e _ (found e)) (over_flat es)

  -- and read the side's columns
  pub clauses_over : (es : List Expr) → All (λ x. on_cols c x ≡ true) (extract_or_clauses_for_join c es)
  unfolding extract_or_clauses_for_join
  clauses_over es = over_flat (keep is_or es)

  -- what all of a list imply, a part of the list implies
  all_part : (t f : Expr → Bool) (es : List Expr) → all t es ≡ true → all t (keep f es) ≡ true
  all_part t f es h = and_l _ _ (all_parts t f es ∙ h)

  holds_flat : (W : World) (ρ : Env) (es : List Expr) → all (λ x. is_t (eval W ρ x)) es ≡ true
      → all (λ x. is_t (eval W ρ x)) (flatten (λ e. listed (extract_or_clause c e)) es) ≡ true
  unfolding flatten all
  holds_flat W ρ [] h = refl
  holds_flat W ρ (e ∷ es) h =
      all_append _ (listed (extract_or_clause c e)) _
      ∙ and_intro (one_holds W ρ e _ (found e) (and_l _ _ h)) (holds_flat W ρ es (and_r _ _ h))

  -- the clauses of a list are TRUE where the list is
  pub clauses_hold : (W : World) (ρ : Env) (es : List Expr) → all (λ x. is_t (eval W ρ x)) es ≡ true
      → all (λ x. is_t (eval W ρ x)) (extract_or_clauses_for_join c es) ≡ true
  unfolding extract_or_clauses_for_join
  clauses_hold W ρ es h = holds_flat W ρ (keep is_or es) (all_part _ is_or es h)

-- ---- predicates inferred through the keys of an Inner join

-- the value that equals another is that value
le_eq : (a b : ℕ) → leb a b ≡ true → leb b a ≡ true → a ≡ b
le_eq a b h k = le_antisymm (leb-true a b h) (leb-true b a k)

pub eq_z : (a b : ℤ) → le_z a b & le_z b a ≡ true → a ≡ b
eq_z (pos a) (pos b) h = ap pos (le_eq a b (and_l _ _ h) (and_r _ _ h))
eq_z (pos a) (negsuc b) h = cc (and_l _ _ h)
eq_z (negsuc a) (pos b) h = cc (and_r _ _ h)
eq_z (negsuc a) (negsuc b) h = ap negsuc (le_eq a b (and_r _ _ h) (and_l _ _ h))

-- two values of which Eq is TRUE are one value
pub eq_true : (a b : Value) → is_t (compared eq a b) ≡ true → a ≡ b
unfolding ◌&◌
eq_true null b h = cc
eq_true (int z) null h = cc
eq_true (int z) (int w) h = ap int (eq_z z w h)
eq_true (int z) (truth b) h = cc
eq_true (truth a) null h = cc
eq_true (truth a) (int w) h = cc
eq_true (truth true) (truth true) h = refl
eq_true (truth true) (truth false) h = cc
eq_true (truth false) (truth true) h = cc
eq_true (truth false) (truth false) h = refl

module _ (W : World) (ρ : Env) where
  ColOf : Expr → Option Name → Type 0
  ColOf e none = Unit {0}
  ColOf e (some x) = eval W ρ e ≡ ρ x

  as_col_ok : (e : Expr) → ColOf e (as_column e)
  unfolding ColOf as_column eval
  as_col_ok (col x) = refl
  as_col_ok (bin o a b) = tt
  as_col_ok (num z) = tt
  as_col_ok (bool b) = tt
  as_col_ok (nul t) = tt
  as_col_ok (neg a) = tt
  as_col_ok (test t a) = tt
  as_col_ok (between n a l u) = tt
  as_col_ok (inlist n a xs) = tt
  as_col_ok (fn p q r xs) = tt

  Agrees : Name → Option Name → Type 0
  Agrees x none = Unit {0}
  Agrees x (some y) = ρ x ≡ ρ y

  pick_ok : (x y z : Name) (rest : Option Name) → ρ y ≡ ρ z → Agrees x rest → (b c : Bool) → same y x ≡ b → same z x ≡ c
      → Agrees x (cond b (some z) (cond c (some y) rest))
  unfolding Agrees
  pick_ok x y z rest e k true c p q = ap ρ (sym (same_eq y x p)) ∙ e
  pick_ok x y z rest e k false true p q = ap ρ (sym (same_eq z x q)) ∙ sym e
  pick_ok x y z rest e k false false p q = k

  pair_ok : (x : Name) (a b : Expr) (o p rest : Option Name) → ColOf a o → ColOf b p → eval W ρ a ≡ eval W ρ b → Agrees x rest
      → Agrees x (pair_of x o p rest)
  unfolding ColOf pair_of
  pair_ok x a b none p rest f g e k = k
  pair_ok x a b (some y) none rest f g e k = k
  pair_ok x a b (some y) (some z) rest f g e k = pick_ok x y z rest (sym f ∙ e ∙ g) k _ _ refl refl

  module _ (on : List Pair) where
    keys_hold : Bool
    keys_hold = all (λ (k : Pair). is_t (compared eq (eval W ρ k.lhs) (eval W ρ k.rhs))) on

  partner_ok : (on : List Pair) → keys_hold on ≡ true → (x : Name) → Agrees x (partner on x)
  unfolding keys_hold partner Agrees all
  partner_ok [] h x = tt
  partner_ok (k ∷ on) h x =
      pair_ok x k.lhs k.rhs _ _ _ (as_col_ok k.lhs) (as_col_ok k.rhs)
      (eq_true _ _ (and_l _ _ h)) (partner_ok on (and_r _ _ h) x)

  to_partner_ok : (x : Name) (o : Option Name) → Agrees x o → eval W ρ (to_partner x o) ≡ ρ x
  unfolding Agrees to_partner eval
  to_partner_ok x none k = refl
  to_partner_ok x (some y) k = sym k

  swapped : (on : List Pair) → keys_hold on ≡ true → (e : Expr) → eval W ρ (replace_cols (swap_keys on) e) ≡ eval W ρ e
  unfolding swap_keys
  swapped on h e =
      eval_sub W (swap_keys on) ρ e ∙ ap (λ (τ : Env). eval W τ e) (fun_ext (λ x. to_partner_ok x _ (partner_ok on h x)))

  -- where the keys match, what is inferred is TRUE where the list is
  pub inferred_hold : (on : List Pair) → all (λ (k : Pair). is_t (compared eq (eval W ρ k.lhs) (eval W ρ k.rhs))) on ≡ true
      → (es : List Expr) → all (λ x. is_t (eval W ρ x)) es ≡ true → all (λ x. is_t (eval W ρ x)) (infer_join_predicates on es) ≡ true
  unfolding infer_join_predicates keys_hold
  inferred_hold on h es k =
      all_map _ _ (keep (λ e. not (on_cols (λ x. no_partner (partner on x)) e)) es)
      ∙ all_cong _ _ (all_of (λ e. ap is_t (swapped on h e)) _)
      ∙ all_part (λ x. true) _ _ es k
