-- Expressions: which columns they read, substitution, conjuncts. Theorem (a): splitting and joining keep truth.
use mathlib.Core.Path.{◌≡◌, refl, sym, ap, ap₂, ◌∙◌}
use mathlib.Core.Bool.{Bool, true, decide_iff}
use mathlib.Core.List.{List, [], ◌∷◌}
use Rattle.plan.specs.Lists.{◌&◌, keep, all}
use Rattle.plan.proofs.Lists.{and_l, and_r, and_intro, and_true, and_assoc, keep_all, keep_cong, all_of, all_append}
use Rattle.plan.specs.Syntax.{truth, Name, and, or, cmp, Expr, col, num, bool, nul, bin, neg, test, between, inlist, fn, Exprs, enil, econs}
use Rattle.plan.specs.Syntax.{Plan, filter}
use Rattle.meaning.specs.Meaning.{Env, World, eval, evals, is_t, binary, not3, tested, negate, in_list, sats, rows, look}
use Rattle.meaning.proofs.Logic.{is_t_tri}
use Rattle.plan.specs.Schema.{schema}
use Rattle.plan.specs.Columns.{on_cols, on_cols_all}
use Rattle.rewrite.specs.Utils.{replace_cols, replace_cols_all, split_conjunction, conjoin, with_filters, Expr-eq, same_e}

-- ---- the columns that an expression reads

mutual
  unfolding on_cols

  pub on_cols_mono : (c d : Name → Bool) → ((x : Name) → c x ≡ true → d x ≡ true) → (e : Expr) → on_cols c e ≡ true → on_cols d e ≡ true
  on_cols_mono c d f (col x) h = f x h
  on_cols_mono c d f (num z) h = refl
  on_cols_mono c d f (bool b) h = refl
  on_cols_mono c d f (nul t) h = refl
  on_cols_mono c d f (bin o a b) h = and_intro (on_cols_mono c d f a (and_l _ _ h)) (on_cols_mono c d f b (and_r _ _ h))
  on_cols_mono c d f (neg a) h = on_cols_mono c d f a h
  on_cols_mono c d f (test t a) h = on_cols_mono c d f a h
  on_cols_mono c d f (between n a l u) h =
      and_intro (on_cols_mono c d f a (and_l _ _ h))
      (and_intro (on_cols_mono c d f l (and_l _ _ (and_r _ _ h))) (on_cols_mono c d f u (and_r _ _ (and_r _ _ h))))
  on_cols_mono c d f (inlist n a xs) h = and_intro (on_cols_mono c d f a (and_l _ _ h)) (on_cols_all_mono c d f xs (and_r _ _ h))
  on_cols_mono c d f (fn p q r xs) h = on_cols_all_mono c d f xs h

  on_cols_all_mono : (c d : Name → Bool) → ((x : Name) → c x ≡ true → d x ≡ true) → (xs : Exprs)
      → on_cols_all c xs ≡ true → on_cols_all d xs ≡ true
  on_cols_all_mono c d f enil h = refl
  on_cols_all_mono c d f (econs x xs) h = and_intro (on_cols_mono c d f x (and_l _ _ h)) (on_cols_all_mono c d f xs (and_r _ _ h))

-- ---- conjuncts

pub same_e_eq : (a b : Expr) → same_e a b ≡ true → a ≡ b
unfolding same_e
same_e_eq a b h = (decide_iff (Expr-eq a b)).0 h

pub filtered_schema : (es : List Expr) (p : Plan) → schema (with_filters es p) ≡ schema p
unfolding with_filters schema
filtered_schema [] p = refl
filtered_schema (e ∷ es) p = refl

module _ (W : World) where
  -- two environments that agree on the columns that an expression reads give it one value
  module _ (c : Name → Bool) (ρ σ : Env) (f : (x : Name) → c x ≡ true → ρ x ≡ σ x) where
    mutual
      unfolding eval on_cols

      pub eval_cong : (e : Expr) → on_cols c e ≡ true → eval W ρ e ≡ eval W σ e
      eval_cong (col x) h = f x h
      eval_cong (num z) h = refl
      eval_cong (bool b) h = refl
      eval_cong (nul t) h = refl
      eval_cong (bin o a b) h = ap₂ (binary o) (eval_cong a (and_l _ _ h)) (eval_cong b (and_r (on_cols c a) _ h))
      eval_cong (neg a) h = ap not3 (eval_cong a h)
      eval_cong (test t a) h = ap (λ v. truth (tested t v)) (eval_cong a h)
      eval_cong (between n a l u) h =
          let i = and_r (on_cols c a) _ h in
          rw (eval_cong a (and_l (on_cols c a) _ h), eval_cong l (and_l (on_cols c l) _ i), eval_cong u (and_r (on_cols c l) _ i))
      eval_cong (inlist n a xs) h =
          ap₂ (λ v vs. negate n (in_list v vs)) (eval_cong a (and_l _ _ h)) (evals_cong xs (and_r (on_cols c a) _ h))
      eval_cong (fn p q r xs) h = ap (W.fun p q r) (evals_cong xs h)

      evals_cong : (xs : Exprs) → on_cols_all c xs ≡ true → evals W ρ xs ≡ evals W σ xs
      evals_cong enil h = refl
      evals_cong (econs x xs) h = ap₂ ◌∷◌ (eval_cong x (and_l _ _ h)) (evals_cong xs (and_r (on_cols c x) _ h))

  -- replaced columns: what the replacements say, as an environment
  mutual
    unfolding eval replace_cols

    pub eval_sub : (σ : Name → Expr) (ρ : Env) (e : Expr) → eval W ρ (replace_cols σ e) ≡ eval W (λ x. eval W ρ (σ x)) e
    eval_sub σ ρ (col x) = refl
    eval_sub σ ρ (num z) = refl
    eval_sub σ ρ (bool b) = refl
    eval_sub σ ρ (nul t) = refl
    eval_sub σ ρ (bin o a b) = rw (eval_sub σ ρ a, eval_sub σ ρ b)
    eval_sub σ ρ (neg a) = rw (eval_sub σ ρ a)
    eval_sub σ ρ (test t a) = rw (eval_sub σ ρ a)
    eval_sub σ ρ (between n a l h) = rw (eval_sub σ ρ a, eval_sub σ ρ l, eval_sub σ ρ h)
    eval_sub σ ρ (inlist n a xs) = rw (eval_sub σ ρ a, evals_sub σ ρ xs)
    eval_sub σ ρ (fn p q r xs) = ap (W.fun p q r) (evals_sub σ ρ xs)

    evals_sub : (σ : Name → Expr) (ρ : Env) (xs : Exprs) → evals W ρ (replace_cols_all σ xs) ≡ evals W (λ x. eval W ρ (σ x)) xs
    evals_sub σ ρ enil = refl
    evals_sub σ ρ (econs x xs) = rw (eval_sub σ ρ x, evals_sub σ ρ xs)

  -- ---- (a) the conjuncts of a predicate are all TRUE where the predicate is, and the other way round

  sole : (ρ : Env) (e : Expr) → all (λ x. is_t (eval W ρ x)) (e ∷ []) ≡ is_t (eval W ρ e)
  unfolding all ◌&◌
  sole ρ e = and_true (is_t (eval W ρ e))

  pub all_split : (ρ : Env) (e : Expr) → all (λ x. is_t (eval W ρ x)) (split_conjunction e) ≡ is_t (eval W ρ e)
  unfolding split_conjunction eval
  all_split ρ (bin and a b) =
      all_append _ (split_conjunction a) (split_conjunction b) ∙ ap₂ ◌&◌ (all_split ρ a) (all_split ρ b) ∙ sym (is_t_tri _ _)
  all_split ρ (bin or a b) = sole ρ (bin or a b)
  all_split ρ (bin (cmp c) a b) = sole ρ (bin (cmp c) a b)
  all_split ρ (col x) = sole ρ (col x)
  all_split ρ (num z) = sole ρ (num z)
  all_split ρ (bool b) = sole ρ (bool b)
  all_split ρ (nul t) = sole ρ (nul t)
  all_split ρ (neg a) = sole ρ (neg a)
  all_split ρ (test t a) = sole ρ (test t a)
  all_split ρ (between n a l h) = sole ρ (between n a l h)
  all_split ρ (inlist n a xs) = sole ρ (inlist n a xs)
  all_split ρ (fn p q r xs) = sole ρ (fn p q r xs)

  pub conj_all : (ρ : Env) (e : Expr) (es : List Expr) → is_t (eval W ρ (conjoin e es)) ≡ all (λ x. is_t (eval W ρ x)) (e ∷ es)
  unfolding conjoin eval all ◌&◌
  conj_all ρ e [] = sym (and_true _)
  conj_all ρ e (x ∷ xs) = conj_all ρ (bin and e x) xs ∙ simp (is_t_tri, and_assoc)

  -- the list of a Filter is what its rows pass
  pub filtered_rows : (es : List Expr) (p : Plan) → rows W (with_filters es p) ≡ keep (sats W (schema p) es) (rows W p)
  unfolding with_filters rows all
  filtered_rows [] p = sym (keep_all (rows W p))
  filtered_rows (e ∷ es) p = keep_cong _ _ (all_of (λ r. conj_all (look (schema p) r) e es) (rows W p))

  -- a Filter of the split list is the Filter
  pub split_rows : (e : Expr) (p : Plan) → rows W (with_filters (split_conjunction e) p) ≡ rows W (filter e p)
  unfolding rows
  split_rows e p = filtered_rows (split_conjunction e) p ∙ keep_cong _ _ (all_of (λ r. all_split (look (schema p) r) e) (rows W p))
