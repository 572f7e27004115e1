-- Lists of conjuncts through each step of the rewrite: if a test of every record passes before, it passes after.
use Prim.Native.Nat.{suc}
use mathlib.Core.Path.{◌≡◌, refl, ap, ◌∙◌}
use mathlib.Core.Bool.{Bool, true, false, not, ◌||◌, cond}
use mathlib.Core.List.{List, [], ◌∷◌, map}
use mathlib.Core.Option.{Option, none, some}
use lib.ListN.{length}
use lib.Dec.{eqb}
use Rattle.plan.specs.Lists.{choose, all, All, anil, acons}
use Rattle.plan.proofs.Lists.{and_l, and_r, and_intro, All-map, All-append, All-keep, All-mapped, All-flat}
use Rattle.plan.specs.Values.{ValueRecord, literal_is}
use Rattle.plan.specs.Syntax.{Name, Op, and, or, cmp, Expr, col, num, bool, nul, bin, neg, test, between, inlist, fn, Exprs, enil, econs}
use Rattle.plan.specs.Syntax.{Entry, Pair}
use Rattle.plan.specs.Schema.{same}
use Rattle.plan.specs.Columns.{on_cols}
use Rattle.plan.specs.Trees.{column_label, label_e}
use Rattle.rewrite.specs.Utils.{replace_cols, replace_cols_all, split_conjunction, split_conjunction?, conjoin, conjunction}
use Rattle.rewrite.specs.SimplifyPredicates.{Rel, rel_cmp, bound_of, as_column, simplify_predicates}
use Rattle.rewrite.specs.ReorderPredicates.{Reordered, reorder_predicates}
use Rattle.rewrite.specs.PushDownFilter.{both_or, either_and_option, guarded, extract_or_clause, is_or, listed, extract_or_clauses_for_join}
use Rattle.rewrite.specs.PushDownFilter.{pair_of, partner, to_partner, swap_keys, infer_join_predicates, if_list, pick, ren, renamed}
use Rattle.rewrite.specs.PushDownFilter.{simplify_filter}
use Rattle.rewrite.proofs.Simplify.{simplified_in}
use Rattle.rewrite.proofs.SimplifyFilter.{reorder_all}
use Rattle.preservation.proofs.Everywhere.{Tests, Closed, count_e, good, good_all, good?, good_entry, good_pair}

module _ (T : Tests) where
  abbrev pub Good : Expr → Type 0
  Good e = good T e ≡ true

  -- a name that a column may have
  abbrev pub Named : Name → Type 0
  Named x = T.label (column_label x) ≡ true

-- as many as before
replaced_count : (σ : Name → Expr) (xs : Exprs) → count_e (replace_cols_all σ xs) ≡ count_e xs
unfolding replace_cols
replaced_count σ enil = refl
replaced_count σ (econs x xs) = ap suc (replaced_count σ xs)

-- ---- columns replaced

module _ (T : Tests) (σ : Name → Expr) (f : (x : Name) → Named T x → Good T (σ x)) where
  mutual
    unfolding good replace_cols label_e

    replaced_good : (e : Expr) → Good T e → Good T (replace_cols σ e)
    replaced_good (col x) h = f x h
    replaced_good (num z) h = h
    replaced_good (bool b) h = h
    replaced_good (nul t) h = h
    replaced_good (bin o a b) h =
        let k = and_r _ _ h in and_intro (and_l _ _ h) (and_intro (replaced_good a (and_l _ _ k)) (replaced_good b (and_r _ _ k)))
    replaced_good (neg a) h = and_intro (and_l _ _ h) (replaced_good a (and_r _ _ h))
    replaced_good (test t a) h = and_intro (and_l _ _ h) (replaced_good a (and_r _ _ h))
    replaced_good (between n a l u) h =
        let k = and_r _ _ h in
        let m = and_r _ _ k in
        and_intro (and_l _ _ h) (and_intro (replaced_good a (and_l _ _ k))
        (and_intro (replaced_good l (and_l _ _ m)) (replaced_good u (and_r _ _ m))))
    replaced_good (inlist n a xs) h =
        let k = and_r _ _ h in
        let m = and_r _ _ k in
        and_intro (and_l _ _ h)
        (and_intro (ap (T.least 1) (replaced_count σ xs) ∙ and_l _ _ k)
        (and_intro (replaced_good a (and_l _ _ m)) (replaced_good_all xs (and_r _ _ m))))
    replaced_good (fn p q r xs) h = and_intro (and_l _ _ h) (replaced_good_all xs (and_r _ _ h))

    replaced_good_all : (xs : Exprs) → good_all T xs ≡ true → good_all T (replace_cols_all σ xs) ≡ true
    replaced_good_all enil h = refl
    replaced_good_all (econs x xs) h = and_intro (replaced_good x (and_l _ _ h)) (replaced_good_all xs (and_r _ _ h))

  pub all_replaced_good : {es : List Expr} → All (Good T) es → All (Good T) (map (replace_cols σ) es)
  all_replaced_good h = All-mapped (replace_cols σ) (All-map replaced_good h)

module _ (T : Tests) where
  -- by the expression of an entry
  pub pick_good : (es : List Entry) → all (good_entry T) es ≡ true → (x : Name) → Named T x → Good T (pick es x)
  unfolding pick all good label_e
  pick_good [] h x k = k
  pick_good (e ∷ es) h x k = go (same e.name x) (pick_good es (and_r _ _ h) x k)
    where
      go : (b : Bool) → Good T (pick es x) → Good T (cond b e.expr (pick es x))
      go true m = and_r _ _ (and_l _ _ h)
      go false m = m

  -- by a name of another schema
  ren_named : (s : List Name) {t : List Name} → All (Named T) t → (x : Name) → Named T x → Named T (ren s t x)
  unfolding ren
  ren_named [] h x k = k
  ren_named (y ∷ s) anil x k = k
  ren_named (y ∷ s) (acons {x = z} {xs = t} h hs) x k = go (same y x) (ren_named s hs x k)
    where
      go : (b : Bool) → Named T (ren s t x) → Named T (cond b z (ren s t x))
      go true m = h
      go false m = m

  pub renamed_good : (s : List Name) {t : List Name} → All (Named T) t → (e : Expr) → Good T e → Good T (renamed s t e)
  unfolding renamed good label_e
  renamed_good s {t} h e k = replaced_good T (λ x. col (ren s t x)) (λ x m. ren_named s h x m) e k

  -- by the partner of a key
  Named? : Option Name → Type 0
  Named? none = Unit {0}
  Named? (some x) = Named T x

  column_named : (e : Expr) → Good T e → Named? (as_column e)
  unfolding as_column good label_e Named?
  column_named (col x) h = h
  column_named (num z) h = tt
  column_named (bool b) h = tt
  column_named (nul t) h = tt
  column_named (bin o a b) h = tt
  column_named (neg a) h = tt
  column_named (test t a) h = tt
  column_named (between n a l u) h = tt
  column_named (inlist n a xs) h = tt
  column_named (fn p q r xs) h = tt

  pair_named : (x : Name) (l r rest : Option Name) → Named? l → Named? r → Named? rest → Named? (pair_of x l r rest)
  unfolding pair_of Named?
  pair_named x none r rest h k m = m
  pair_named x (some y) none rest h k m = m
  pair_named x (some y) (some z) rest h k m = go (same y x) (same z x)
    where
      go : (b c : Bool) → Named? (cond b (some z) (cond c (some y) rest))
      go true c = k
      go false true = h
      go false false = m

  partner_named : (on : List Pair) → all (good_pair T) on ≡ true → (x : Name) → Named? (partner on x)
  unfolding partner all Named?
  partner_named [] h x = tt
  partner_named (k ∷ on) h x =
      let g = and_r _ _ (and_l _ _ h) in
      pair_named x (as_column k.lhs) (as_column k.rhs) (partner on x)
      (column_named k.lhs (and_l _ _ g)) (column_named k.rhs (and_r _ _ g)) (partner_named on (and_r _ _ h) x)

  to_partner_good : (x : Name) (o : Option Name) → Named T x → Named? o → Good T (to_partner x o)
  unfolding to_partner good label_e Named?
  to_partner_good x none h k = h
  to_partner_good x (some y) h k = k

  pub inferred_good : (on : List Pair) → all (good_pair T) on ≡ true → {es : List Expr} → All (Good T) es → All (Good T) (infer_join_predicates on es)
  unfolding infer_join_predicates swap_keys
  inferred_good on h k = all_replaced_good T (swap_keys on) (λ x m. to_partner_good x (partner on x) m (partner_named on h x)) (All-keep _ k)

  pub if_good : (b : Bool) {es : List Expr} → All (Good T) es → All (Good T) (if_list b es)
  if_good true h = h
  if_good false h = anil

  -- ---- conjuncts

  pub split_good : (e : Expr) → Good T e → All (Good T) (split_conjunction e)
  unfolding split_conjunction good
  split_good (bin and a b) h = let k = and_r _ _ h in All-append (split_good a (and_l _ _ k)) (split_good b (and_r _ _ k))
  split_good (bin or a b) h = acons h anil
  split_good (bin (cmp o) a b) h = acons h anil
  split_good (col x) h = acons h anil
  split_good (num z) h = acons h anil
  split_good (bool b) h = acons h anil
  split_good (nul t) h = acons h anil
  split_good (neg a) h = acons h anil
  split_good (test t a) h = acons h anil
  split_good (between n a l u) h = acons h anil
  split_good (inlist n a xs) h = acons h anil
  split_good (fn p q r xs) h = acons h anil

  pub split?_good : (f : Option Expr) → good? T f ≡ true → All (Good T) (split_conjunction? f)
  unfolding split_conjunction?
  split?_good none h = anil
  split?_good (some e) h = split_good e h

-- ---- what is made of And, Or, FALSE and bounds

module _ (T : Tests) (c : Closed T) where
  bin_good : (o : Op) (a b : Expr) → Good T a → Good T b → Good T (bin o a b)
  unfolding good
  bin_good o a b h k = and_intro (c.binary o a b) (and_intro h k)

  pub conjoin_good : (e : Expr) (es : List Expr) → Good T e → All (Good T) es → Good T (conjoin e es)
  unfolding conjoin
  conjoin_good e [] h anil = h
  conjoin_good e (x ∷ xs) h (acons k ks) = conjoin_good (bin and e x) xs (bin_good and e x h k) ks

  pub conjunction_good : {es : List Expr} → All (Good T) es → good? T (conjunction es) ≡ true
  unfolding conjunction
  conjunction_good anil = refl
  conjunction_good (acons h hs) = conjoin_good _ _ h hs

  -- a bound is made of a column and a literal that stood in a conjunct
  Bound : Name → ValueRecord → Type 0
  Bound x l = Good T (col x) × Good T (literal_is l)

  bound_good : (f : Bool) (r : Rel) (x : Name) (l : ValueRecord) → Bound x l → Good T (bound_of f r x l)
  unfolding bound_of Bound
  bound_good false r x l h = bin_good (cmp (rel_cmp false r)) (col x) (literal_is l) h.0 h.1
  bound_good true r x l h = bin_good (cmp (rel_cmp true r)) (literal_is l) (col x) h.1 h.0

  good_bound : (f : Bool) (r : Rel) (x : Name) (l : ValueRecord) → Good T (bound_of f r x l) → Bound x l
  unfolding bound_of good Bound
  good_bound false r x l h = let k = and_r _ _ h in (and_l _ _ k, and_r _ _ k)
  good_bound true r x l h = let k = and_r _ _ h in (and_r _ _ k, and_l _ _ k)

  false_good : Good T (bool false)
  unfolding good
  false_good = c.false_literal

  simplified_good : {es : List Expr} → All (Good T) es → All (Good T) (simplify_predicates es)
  simplified_good h = simplified_in (Good T) Bound false_good bound_good good_bound h

  pub simplify_filter_good : (e : Expr) → Good T e → good? T (simplify_filter e) ≡ true
  unfolding simplify_filter choose
  simplify_filter_good e h = go (not (eqb (length (split_conjunction e)) (length new.predicates)) || new.changed)
    where
      new : Reordered
      new = reorder_predicates (simplify_predicates (split_conjunction e))

      go : (b : Bool) → good? T (choose b (conjunction new.predicates) (some e)) ≡ true
      go true = conjunction_good (reorder_all (simplified_good (split_good T e h)))
      go false = h

  -- ---- clauses out of ORs

  both_good : (o p : Option Expr) → good? T o ≡ true → good? T p ≡ true → good? T (both_or o p) ≡ true
  unfolding both_or
  both_good none p h k = refl
  both_good (some a) none h k = refl
  both_good (some a) (some b) h k = bin_good or a b h k

  either_good : (o p : Option Expr) → good? T o ≡ true → good? T p ≡ true → good? T (either_and_option o p) ≡ true
  unfolding either_and_option
  either_good none p h k = k
  either_good (some a) none h k = h
  either_good (some a) (some b) h k = bin_good and a b h k

  guarded_good : (b : Bool) (e : Expr) → Good T e → good? T (guarded b e) ≡ true
  unfolding guarded
  guarded_good true e h = h
  guarded_good false e h = refl

  extract_good : (d : Name → Bool) (e : Expr) → Good T e → good? T (extract_or_clause d e) ≡ true
  unfolding extract_or_clause good
  extract_good d (bin and a b) h =
      let k = and_r _ _ h in
      either_good (extract_or_clause d a) (extract_or_clause d b) (extract_good d a (and_l _ _ k)) (extract_good d b (and_r _ _ k))
  extract_good d (bin or a b) h =
      let k = and_r _ _ h in
      both_good (extract_or_clause d a) (extract_or_clause d b) (extract_good d a (and_l _ _ k)) (extract_good d b (and_r _ _ k))
  extract_good d (bin (cmp o) a b) h = guarded_good (on_cols d (bin (cmp o) a b)) (bin (cmp o) a b) h
  extract_good d (col x) h = guarded_good (on_cols d (col x)) (col x) h
  extract_good d (num z) h = guarded_good (on_cols d (num z)) (num z) h
  extract_good d (bool b) h = guarded_good (on_cols d (bool b)) (bool b) h
  extract_good d (nul t) h = guarded_good (on_cols d (nul t)) (nul t) h
  extract_good d (neg a) h = guarded_good (on_cols d (neg a)) (neg a) h
  extract_good d (test t a) h = guarded_good (on_cols d (test t a)) (test t a) h
  extract_good d (between n a l u) h = guarded_good (on_cols d (between n a l u)) (between n a l u) h
  extract_good d (inlist n a xs) h = guarded_good (on_cols d (inlist n a xs)) (inlist n a xs) h
  extract_good d (fn p q r xs) h = guarded_good (on_cols d (fn p q r xs)) (fn p q r xs) h

  listed_good : (o : Option Expr) → good? T o ≡ true → All (Good T) (listed o)
  unfolding listed
  listed_good none h = anil
  listed_good (some e) h = acons h anil

  pub clauses_good : (d : Name → Bool) {es : List Expr} → All (Good T) es → All (Good T) (extract_or_clauses_for_join d es)
  unfolding extract_or_clauses_for_join
  clauses_good d h = All-flat _ (λ e k. listed_good (extract_or_clause d e) (extract_good d e k)) (All-keep is_or h)
