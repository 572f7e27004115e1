-- What stands over a schema stays over it, or over the other schema, when conjuncts move: the name rule of references, for each step of
-- the rewrite.
use Prim.Native.Nat.{ℕ}
use mathlib.Core.Path.{◌≡◌, refl, sym, ◌∙◌}
use mathlib.Core.Bool.{Bool, true, false, ◌||◌, cond}
use mathlib.Core.List.{List, [], ◌∷◌, ◌++◌, map}
use mathlib.Core.Option.{Option, none, some}
use lib.ListN.{length}
use borrow.Author.Tests.{eqb-true}
use Rattle.plan.proofs.Lists.{and_l, and_r, and_intro, All-map, All-keep, All-mapped}
use Rattle.plan.specs.Lists.{any, all, All, anil, acons}
use Rattle.plan.specs.Syntax.{Name, Expr, col, num, bool, nul, bin, neg, test, between, inlist, fn, Exprs, enil, econs, Entry, Pair, Kind}
use Rattle.plan.specs.Syntax.{inner, left, right, full, left_semi, right_semi, left_anti, right_anti, Plan, Plans, pnil, pcons}
use Rattle.plan.specs.Schema.{same, schema, sides, has}
use Rattle.plan.specs.Columns.{on_cols, on_cols_all}
use Rattle.rewrite.specs.Utils.{replace_cols, replace_cols_all, split_conjunction?, with_filters, unique}
use Rattle.rewrite.specs.PushDownFilter.{pick, names, ren, renamed, filter_each, keep_predicates, join_conditions}
use Rattle.rewrite.specs.PushDownFilter.{on_filter_join_conditions}
use Rattle.rewrite.proofs.Project.{split_cols}
use Rattle.rewrite.proofs.Places.{ren_has}
use Rattle.rewrite.proofs.Join.{Over}
use Rattle.rewrite.proofs.PushJoin.{rest_over}
use Rattle.acceptance.specs.NamesRule.{reads, reads?, ok, ok_all, rule}
use Rattle.rewrite.proofs.SimplifyFilter.{conj_reads}

module _ {A : Type 0} where
  pub all_true : (f : A → Bool) (xs : List A) → all f xs ≡ true → All (λ x. f x ≡ true) xs
  unfolding all
  all_true f [] h = anil
  all_true f (x ∷ xs) h = acons (and_l _ _ h) (all_true f xs (and_r _ _ h))

  pub true_all : (f : A → Bool) {xs : List A} → All (λ x. f x ≡ true) xs → all f xs ≡ true
  unfolding all
  true_all f anil = refl
  true_all f (acons h hs) = and_intro h (true_all f hs)

pub unique_all : {P : Expr → Type 0} {es : List Expr} → All P es → All P (unique es)
unfolding unique
unique_all anil = anil
unique_all (acons h hs) = acons h (All-keep _ (unique_all hs))

pub unique_over : (s : List Name) {es : List Expr} → Over s es → Over s (unique es)
unique_over s h = unique_all h

-- ---- replaced columns

module _ (c d : Name → Bool) (σ : Name → Expr) (f : (x : Name) → c x ≡ true → on_cols d (σ x) ≡ true) where
  mutual
    unfolding on_cols replace_cols

    pub replaced_cols : (e : Expr) → on_cols c e ≡ true → on_cols d (replace_cols σ e) ≡ true
    replaced_cols (col x) h = f x h
    replaced_cols (num z) h = refl
    replaced_cols (bool b) h = refl
    replaced_cols (nul t) h = refl
    replaced_cols (bin o a b) h = and_intro (replaced_cols a (and_l _ _ h)) (replaced_cols b (and_r _ _ h))
    replaced_cols (neg a) h = replaced_cols a h
    replaced_cols (test t a) h = replaced_cols a h
    replaced_cols (between n a l u) h =
        and_intro (replaced_cols a (and_l _ _ h))
        (and_intro (replaced_cols l (and_l _ _ (and_r _ _ h))) (replaced_cols u (and_r _ _ (and_r _ _ h))))
    replaced_cols (inlist n a xs) h = and_intro (replaced_cols a (and_l _ _ h)) (replaced_cols_all xs (and_r _ _ h))
    replaced_cols (fn p q r xs) h = replaced_cols_all xs h

    replaced_cols_all : (xs : Exprs) → on_cols_all c xs ≡ true → on_cols_all d (replace_cols_all σ xs) ≡ true
    replaced_cols_all enil h = refl
    replaced_cols_all (econs x xs) h = and_intro (replaced_cols x (and_l _ _ h)) (replaced_cols_all xs (and_r _ _ h))

pick_reads : (s : List Name) (es : List Entry) → all (λ (e : Entry). reads s e.expr) es ≡ true → (x : Name)
    → has (names es) x ≡ true → reads s (pick es x) ≡ true
unfolding pick all any
pick_reads s [] h x k = cc
pick_reads s (e ∷ es) h x k = go (same e.name x) k (pick_reads s es (and_r _ _ h) x)
  where
    go : (b : Bool) → b || has (names es) x ≡ true → (has (names es) x ≡ true → reads s (pick es x) ≡ true)
        → reads s (cond b e.expr (pick es x)) ≡ true
    go true k m = and_l _ _ h
    go false k m = m k

-- what moves below entries reads the input
pub picked_over : (s : List Name) (es : List Entry) → all (λ (e : Entry). reads s e.expr) es ≡ true
    → {xs : List Expr} → Over (names es) xs → Over s (map (replace_cols (pick es)) xs)
picked_over s es h k =
    All-mapped (replace_cols (pick es))
    (All-map (λ e i. replaced_cols (has (names es)) (has s) (pick es) (pick_reads s es h) e i) k)

pub renamed_reads : (s t : List Name) (e : Expr) → length s ≡ length t → reads s e ≡ true → reads t (renamed s t e) ≡ true
unfolding renamed on_cols
renamed_reads s t e w h = replaced_cols (has s) (has t) (λ x. col (ren s t x)) (λ x k. ren_has s t x w k) e h

-- ---- Filters over a plan

pub with_filters_ok : {es : List Expr} (p : Plan) → Over (schema p) es → ok p ≡ true → ok (with_filters es p) ≡ true
unfolding with_filters rule
with_filters_ok p anil o = o
with_filters_ok p (acons h hs) o = and_intro (conj_reads (schema p) _ _ h hs) o

pub filter_each_ok : (s : List Name) (e : Expr) (n : ℕ) (ps : Plans) → reads s e ≡ true → length s ≡ n
    → ok_all n ps ≡ true → ok_all n (filter_each s e ps) ≡ true
unfolding filter_each rule schema
filter_each_ok s e n pnil h w o = refl
filter_each_ok s e n (pcons p ps) h w o =
    let i : length (schema p) ≡ n = eqb-true (length (schema p)) n (and_l _ _ o) in
    and_intro (and_l _ _ o)
    (and_intro (and_intro (renamed_reads s (schema p) e (w ∙ sym i) h) (and_l _ _ (and_r _ _ o)))
    (filter_each_ok s e n ps h w (and_r _ _ (and_r _ _ o))))

-- ---- the lists of a join

pub split?_over : (s : List Name) (f : Option Expr) → reads? s f ≡ true → Over s (split_conjunction? f)
unfolding split_conjunction?
split?_over s none h = anil
split?_over s (some e) h = split_cols (has s) e h

module _ (s t : List Name) (on : List Pair) (P G : List Expr) where
  pub keep_over : (k : Kind) → Over (sides k s t) P → Over (sides k s t) (keep_predicates k s t on P G)
  keep_over inner h = anil
  keep_over left h = rest_over true false s t _ h
  keep_over right h = rest_over false true s t _ h
  keep_over full h = rest_over false false s t _ h
  keep_over left_semi h = rest_over true false s t _ h
  keep_over right_semi h = rest_over false true s t _ h
  keep_over left_anti h = rest_over true false s t _ h
  keep_over right_anti h = rest_over false true s t _ h

  pub conditions_over : (k : Kind) → Over (sides k s t) P → Over (s ++ t) (join_conditions k s t on P G)
  conditions_over inner h = rest_over true true s t _ h
  conditions_over left h = anil
  conditions_over right h = anil
  conditions_over full h = anil
  conditions_over left_semi h = anil
  conditions_over right_semi h = anil
  conditions_over left_anti h = anil
  conditions_over right_anti h = anil

  pub on_conditions_over : (k : Kind) → Over (s ++ t) G → Over (s ++ t) (on_filter_join_conditions k s t on P G)
  on_conditions_over k h = rest_over _ _ s t _ h
