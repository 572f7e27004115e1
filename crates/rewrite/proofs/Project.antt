-- Theorem (d): conjuncts move below a Projection once each column is replaced by its entry's expression.
-- Any choice of the conjuncts that move will do: which the source chooses has no bearing on the rows.
--
--     Filter e                    Filter (what stays)
--       Projection es    becomes    Projection es
--         p                           Filter (what moves, replaced)
--                                       p
use mathlib.Core.Path.{◌≡◌, refl, sym, ap, ◌∙◌}
use mathlib.Core.Bool.{Bool, true, false, ◌||◌, cond}
use mathlib.Core.List.{List, [], ◌∷◌, map}
use Rattle.plan.specs.Lists.{◌&◌, any, all, All, anil, acons}
use Rattle.plan.proofs.Lists.{All-map, All-keep, All-append, and_l, and_r, all_map, all_cong, all_parts, all_of}
use Rattle.plan.proofs.Lists.{keep_cong, keep_keep, keep_map}
use Rattle.plan.specs.Syntax.{Name, Expr, col, num, bool, nul, bin, and, or, cmp, neg, test, between, inlist, fn, Entry, Plan, filter}
use Rattle.plan.specs.Syntax.{project}
use Rattle.meaning.specs.Meaning.{World, Env, Row, is_t, eval, rows, look, sats, entries}
use Rattle.plan.specs.Schema.{same, schema, has}
use Rattle.rewrite.specs.Utils.{split_conjunction, replace_cols, with_filters}
use Rattle.plan.specs.Columns.{on_cols}
use Rattle.rewrite.specs.PushDownFilter.{pick, names, stay, move}
use Rattle.rewrite.proofs.Exprs.{eval_cong, eval_sub, filtered_rows, filtered_schema, split_rows}

-- the columns of the conjuncts are columns of the predicate
pub split_cols : (c : Name → Bool) (e : Expr) → on_cols c e ≡ true → All (λ x. on_cols c x ≡ true) (split_conjunction e)
unfolding split_conjunction on_cols
split_cols c (bin and a b) h = All-append (split_cols c a (and_l _ _ h)) (split_cols c b (and_r (on_cols c a) _ h))
split_cols c (bin or a b) h = acons h anil
split_cols c (bin (cmp o) a b) h = acons h anil
split_cols c (col x) h = acons h anil
split_cols c (num z) h = acons h anil
split_cols c (bool b) h = acons h anil
split_cols c (nul t) h = acons h anil
split_cols c (neg a) h = acons h anil
split_cols c (test t a) h = acons h anil
split_cols c (between n a l u) h = acons h anil
split_cols c (inlist n a xs) h = acons h anil
split_cols c (fn p q r xs) h = acons h anil

module _ (W : World) where
  -- conjuncts under a substitution, where it says of each column what the environment says
  pub sub_all : (c : Name → Bool) (ρ ρ' : Env) (σ : Name → Expr)
      → ((x : Name) → c x ≡ true → ρ' x ≡ eval W ρ (σ x)) → {es : List Expr} → All (λ x. on_cols c x ≡ true) es
      → all (λ e. is_t (eval W ρ e)) (map (replace_cols σ) es) ≡ all (λ e. is_t (eval W ρ' e)) es
  sub_all c ρ ρ' σ f {es} h =
      all_map _ (replace_cols σ) es
      ∙ all_cong _ _ (All-map (λ e k. ap is_t (eval_sub W σ ρ e ∙ sym (eval_cong W c ρ' (λ x. eval W ρ (σ x)) f e k))) h)

  cond_eval : (ρ : Env) (b : Bool) (x y : Expr) → eval W ρ (cond b x y) ≡ cond b (eval W ρ x) (eval W ρ y)
  cond_eval ρ true x y = refl
  cond_eval ρ false x y = refl

  -- a column of the entries is the expression that it stands for
  pub look_entries : (s : List Name) (r : Row) (es : List Entry) (x : Name) → has (names es) x ≡ true
      → look (names es) (entries W s es r) x ≡ eval W (look s r) (pick es x)
  unfolding pick any
  look_entries s r [] x h = cc
  look_entries s r (e ∷ es) x h = go (same e.name x) h (look_entries s r es x) ∙ sym (cond_eval (look s r) (same e.name x) _ _)
    where
      go : (b : Bool) → b || has (names es) x ≡ true
          → (has (names es) x ≡ true → look (names es) (entries W s es r) x ≡ eval W (look s r) (pick es x))
          → cond b (eval W (look s r) e.expr) (look (names es) (entries W s es r) x)
          ≡ cond b (eval W (look s r) e.expr) (eval W (look s r) (pick es x))
      go true h k = refl
      go false h k = k h

  module _ (es : List Entry) (p : Plan) (e : Expr) (known : on_cols (has (names es)) e ≡ true) (push : Expr → Bool) where
    pub project_rows :
        rows W (with_filters (stay push e) (project es (with_filters (map (replace_cols (pick es)) (move push e)) p)))
        ≡ rows W (filter e (project es p))
    unfolding rows schema
    project_rows =
        rw (← split_rows W e (project es p))
        (simp (filtered_rows W, filtered_schema, keep_map, keep_keep) (ap (map f) (keep_cong _ _ (all_of point (rows W p)))))
      where
        down : List Expr
        down = map (replace_cols (pick es)) (move push e)

        f : Row → Row
        f = entries W (schema p) es

        moved : (r : Row) → sats W (schema p) down r ≡ sats W (names es) (move push e) (f r)
        moved r =
            sub_all (has (names es)) (look (schema p) r) (look (names es) (f r)) (pick es) (look_entries (schema p) r es)
            (All-keep push (split_cols _ e known))

        point : (r : Row) → sats W (schema p) down r & sats W (names es) (stay push e) (f r) ≡ sats W (names es) (split_conjunction e) (f r)
        point r = ap (◌& sats W (names es) (stay push e) (f r)) (moved r) ∙ all_parts _ push (split_conjunction e)
