-- The lists of a join: none of their conjuncts splits, so that the longest list of what is written is theirs or the inputs'.
--     left_plain, ..   the conjuncts of each list do not split
--     fits_few         where none of the lists is too long, none of the answer's is
--     few_fits         and the other way
-- Assumes nothing.
use mathlib.Core.Path.{◌≡◌, refl, sym, ap, fun_ext, ◌∙◌}
use mathlib.Core.Bool.{Bool, true, false, not, ◌&&◌}
use mathlib.Core.List.{List, [], ◌∷◌, ◌++◌}
use mathlib.Core.Option as O
use mathlib.Core.Option.{Option, some}
use Prim.Native.Nat.{ℕ, ◌≤◌, max as larger}
use native.Mathlib.Omega.{arith}
use native.Mathlib.Nat.{le_trans, le_of_eq, le_refl, max-le, le-max_left, le-max_right}
use lib.Dec.{leb}
use lib.ListN.{length, length-append}
use borrow.Author.Tests.{leb-true, le-leb}
use Rattle.image.specs.Limits.{max_list}
use Rattle.plan.specs.Schema.{has, schema}
use Rattle.plan.specs.Syntax.{Name, Expr, col, num, bool, nul, bin, and, or, cmp, neg, test, between, inlist, fn, Pair, Kind, Plan, join}
use Rattle.plan.specs.Lists.{anil, acons}
use Rattle.plan.proofs.Lists.{All-map, All-append, All-keep, All-mapped, All-flat, all_of}
use Rattle.rewrite.specs.Limits.{list_p}
use Rattle.rewrite.specs.Utils.{replace_cols, split_conjunction, split_conjunction?, conjoin, conjunction, with_filters}
use Rattle.rewrite.specs.PushDownFilter.{both_or, extract_or_clause, is_or, extract_or_clauses_for_join, partner, to_partner, swap_keys}
use Rattle.rewrite.specs.PushDownFilter.{infer_join_predicates, push_to, push_not, if_list, left_push, right_push, keep_predicates, join_conditions}
use Rattle.rewrite.specs.PushDownFilter.{on_filter_join_conditions, inferred_join_predicates, rest, left_preserved, right_preserved, is_inner}
use Rattle.rewrite.specs.PushDownFilter.{on_left_preserved, on_right_preserved}
use Rattle.rewrite.specs.PushDownFilter as P
use Rattle.conjuncts.specs.Items.{most}
use Rattle.conjuncts.proofs.Listed.{lists_length}
use Rattle.push_down_join.specs.Clauses.{or_clause}
use Rattle.push_down_join.specs.JoinPlans.{Moves, Moved, join_over}
use Rattle.push_down_base.specs.Plain.{Whole, Plain}
use Rattle.push_down_join.specs.Partners.{or_self}
use Rattle.push_down_join.specs.Scopes.{swap}
use Rattle.push_down_join.proofs.MovedLists.{lists_count, sides_count}
use Rattle.push_down_base.proofs.Plain.{split_plain, split_some, split_joined, renamed_parts}
use Rattle.push_down_join.proofs.Siding.{clauses_each}

-- ---- conjuncts that do not split

-- one that has one conjunct is it
whole_one : (e : Expr) → length (split_conjunction e) ≡ 1 → Whole e
unfolding split_conjunction
whole_one (bin and a b) h =
    absurd (omega (arith, split_some a, split_some b, length-append (split_conjunction a) (split_conjunction b)))
whole_one (bin or a b) h = record { one = refl }
whole_one (bin (cmp o) a b) h = record { one = refl }
whole_one (col x) h = record { one = refl }
whole_one (num z) h = record { one = refl }
whole_one (bool b) h = record { one = refl }
whole_one (nul t) h = record { one = refl }
whole_one (neg a) h = record { one = refl }
whole_one (test t a) h = record { one = refl }
whole_one (between n a l u) h = record { one = refl }
whole_one (inlist n a xs) h = record { one = refl }
whole_one (fn p q r xs) h = record { one = refl }

-- keys are swapped for columns
swap_column : (on : List Pair) (x : Name) → swap_keys on x ≡ col (swap on x)
unfolding swap_keys to_partner
swap_column on x = go (partner on x)
  where
    go : (o : Option Name) → to_partner x o ≡ col (or_self x o)
    go O.none = refl
    go (some y) = refl

swapped_whole : (on : List Pair) (e : Expr) → Whole e → Whole (replace_cols (swap_keys on) e)
swapped_whole on e h =
    let f : swap_keys on ≡ (λ x. col (swap on x)) = fun_ext (swap_column on) in
    whole_one (replace_cols (swap_keys on) e)
    (ap (λ (σ : Name → Expr). length (split_conjunction (replace_cols σ e))) f ∙ renamed_parts (swap on) e ∙ ap length h.one)

-- what is inferred
inferred_plain : (on : List Pair) {es : List Expr} → Plain es → Plain (infer_join_predicates on es)
unfolding infer_join_predicates
inferred_plain on h = All-mapped (replace_cols (swap_keys on)) (All-map (swapped_whole on) (All-keep _ h))

-- the clause of an OR is an OR
clause_plain : (t : Name → Bool) (e : Expr) → Plain (P.listed (or_clause t e))
unfolding P.listed is_or extract_or_clause both_or split_conjunction
clause_plain t (bin or a b) = go (extract_or_clause t a) (extract_or_clause t b)
  where
    go : (x y : Option Expr) → Plain (P.listed (both_or x y))
    go O.none y = anil
    go (some x) O.none = anil
    go (some x) (some y) = acons (record { one = refl }) anil
clause_plain t (bin and a b) = anil
clause_plain t (bin (cmp o) a b) = anil
clause_plain t (col x) = anil
clause_plain t (num z) = anil
clause_plain t (bool b) = anil
clause_plain t (nul u) = anil
clause_plain t (neg a) = anil
clause_plain t (test u a) = anil
clause_plain t (between n a l u) = anil
clause_plain t (inlist n a xs) = anil
clause_plain t (fn p q r xs) = anil

clauses_plain : (t : Name → Bool) (es : List Expr) → Plain (extract_or_clauses_for_join t es)
clauses_plain t es =
    rw (clauses_each t es) (All-flat (λ e. P.listed (or_clause t e)) (λ e u. clause_plain t e) (all_of {P = λ e. Unit {0}} (λ e. tt) es))

if_plain : (b : Bool) {es : List Expr} → Plain es → Plain (if_list b es)
if_plain true h = h
if_plain false h = anil

push_plain : (b : Bool) (s : List Name) {es : List Expr} → Plain es → Plain (push_to b s es)
unfolding push_to
push_plain b s h = All-keep _ h

stay_plain : (b : Bool) (s : List Name) {es : List Expr} → Plain es → Plain (push_not b s es)
unfolding push_not
stay_plain b s h = All-keep _ h

module _ (k : Kind) (s t : List Name) (on : List Pair) {A G : List Expr} (p : Plain A) (g : Plain G) where
  rest_plain : (a b : Bool) {es : List Expr} → Plain es → Plain (rest a b s t es)
  rest_plain a b h = stay_plain b t (stay_plain a s h)

  inferred : Plain (inferred_join_predicates k s t on A G)
  inferred = if_plain (is_inner k) (inferred_plain on (All-append p g))

  pub left_plain : Plain (left_push k s t on A G)
  left_plain =
      All-append (push_plain (left_preserved k) s p)
      (All-append (push_plain true s inferred) (All-append (push_plain (on_left_preserved k) s g) (clauses_plain (has s) _)))

  pub right_plain : Plain (right_push k s t on A G)
  right_plain =
      All-append (push_plain (right_preserved k) t (stay_plain (left_preserved k) s p))
      (All-append (push_plain true t (stay_plain true s inferred))
      (All-append (push_plain (on_right_preserved k) t (stay_plain (on_left_preserved k) s g)) (clauses_plain (has t) _)))

  pub conditions_plain : Plain (join_conditions k s t on A G ++ on_filter_join_conditions k s t on A G)
  conditions_plain =
      All-append (if_plain (is_inner k) (rest_plain (left_preserved k) (right_preserved k) p)) (rest_plain (on_left_preserved k)
      (on_right_preserved k) g)

  pub kept_plain : Plain (keep_predicates k s t on A G)
  kept_plain = if_plain (not (is_inner k)) (rest_plain (left_preserved k) (right_preserved k) p)

-- a join's own filter
pub split_plain? : (f : Option Expr) → Plain (split_conjunction? f)
unfolding split_conjunction?
split_plain? O.none = anil
split_plain? (some e) = split_plain e

-- ---- the longest list

-- of a plan under a Filter
pub filters_few : (es : List Expr) (p : Plan) → Plain es → length es ≤ max_list → list_p p ≤ max_list → list_p (with_filters es p) ≤ max_list
unfolding with_filters list_p
filters_few [] p h few below = below
filters_few (e ∷ es) p h few below = max-le (le_trans (le_of_eq (ap length (split_joined e h))) few) below

filters_own : (es : List Expr) (p : Plan) → Plain es → length es ≤ list_p (with_filters es p)
unfolding with_filters list_p
filters_own [] p h = omega arith
filters_own (e ∷ es) p h = le_trans (le_of_eq (sym (ap length (split_joined e h)))) (le-max_left _ (list_p p))

filters_below : (es : List Expr) (p : Plan) → list_p p ≤ list_p (with_filters es p)
unfolding with_filters list_p
filters_below [] p = le_refl (list_p p)
filters_below (e ∷ es) p = le-max_right (length (split_conjunction (conjoin e es))) (list_p p)

-- of a join's filter
conditions_count : (es : List Expr) → Plain es → length (split_conjunction? (conjunction es)) ≡ length es
unfolding conjunction split_conjunction?
conditions_count [] h = refl
conditions_count (e ∷ es) h = ap length (split_joined e h)

-- counts up to `too_many`
few_of : (n m : ℕ) → n ≡ most max_list m → n ≤ max_list → m ≤ max_list
unfolding most
few_of n m e h = omega arith

count_of : (n m : ℕ) → n ≡ most max_list m → m ≤ max_list → n ≤ max_list
unfolding most
count_of n m e h = omega arith

both_true : (a b : Bool) → (a && b) ≡ true → (a ≡ true) × (b ≡ true)
both_true true b h = (refl, h)
both_true false b h = let z : ◌≡◌ {A = ℕ} 0 1 = cc in absurd (omega arith)

-- a test that failed, and one that did not
pub not_told : (b : Bool) → not b ≡ true → b ≡ true → ⊥
not_told true h e = let z : ◌≡◌ {A = ℕ} 0 1 = cc in omega arith
not_told false h e = let z : ◌≡◌ {A = ℕ} 0 1 = cc in omega arith

pub told : (b : Bool) → not b ≡ false → b ≡ true
told true h = refl
told false h = sym h

-- what `fits` tells
pub fits_each : (a b c : ℕ) → ((leb a max_list && leb b max_list) && leb c max_list) ≡ true → (a ≤ max_list) × (b ≤ max_list) × (c ≤ max_list)
fits_each a b c h =
    let x = both_true (leb a max_list && leb b max_list) (leb c max_list) h in
    let y = both_true (leb a max_list) (leb b max_list) x.0 in
    (leb-true a max_list y.0, leb-true b max_list y.1, leb-true c max_list x.1)

each_fits : (a b c : ℕ) → a ≤ max_list → b ≤ max_list → c ≤ max_list → ((leb a max_list && leb b max_list) && leb c max_list) ≡ true
each_fits a b c x y z = rw (le-leb a max_list x, le-leb b max_list y, le-leb c max_list z)

-- the join, and what stays above it
abbrev pub answer_over : Kind → Plan → Plan → List Pair → List Expr → List Expr → Plan
answer_over k l r on A G = with_filters (keep_predicates k (schema l) (schema r) on A G) (join_over k l r on A G)

module _ {img : List ℕ} {σ : Name → Expr} {v : Moves} (k : Kind) (l r : Plan) (on : List Pair) {A G : List Expr}
    (h : Moved img σ v k (schema l) (schema r) on A G) (p : Plain A) (g : Plain G) where
  pub fits_few : list_p l ≤ max_list → list_p r ≤ max_list → v.left.len ≤ max_list → v.right.len ≤ max_list → v.conditions.len ≤ max_list → list_p
      (answer_over k l r on A G) ≤ max_list
  unfolding list_p
  fits_few hl hr a b c =
      filters_few (keep_predicates k (schema l) (schema r) on A G) (join_over k l r on A G) (kept_plain k (schema l) (schema r) on p g)
      (le_trans (le_of_eq (lists_length h.kept.lists h.kept.most)) h.kept.most)
      (max-le
      (le_trans (le_of_eq (conditions_count _ (conditions_plain k (schema l) (schema r) on p g))) (few_of v.conditions.len _ (lists_count
      h.conditions) c))
      (max-le
      (filters_few _ l (left_plain k (schema l) (schema r) on p g) (few_of v.left.len _ (sides_count h.left) a) hl)
      (filters_few _ r (right_plain k (schema l) (schema r) on p g) (few_of v.right.len _ (sides_count h.right) b) hr)))

  pub few_fits : list_p (answer_over k l r on A G) ≤ max_list
      → ((leb v.left.len max_list && leb v.right.len max_list) && leb v.conditions.len max_list) ≡ true
  unfolding list_p
  few_fits few =
      let inner : list_p (join_over k l r on A G) ≤ max_list =
      le_trans (filters_below (keep_predicates k (schema l) (schema r) on A G) (join_over k l r on A G)) few in
      let cs : length (split_conjunction? (conjunction
      (join_conditions k (schema l) (schema r) on A G ++ on_filter_join_conditions k (schema l) (schema r) on A G))) ≤ max_list =
      le_trans (le-max_left _ _) inner in
      let sides : larger (list_p (with_filters (left_push k (schema l) (schema r) on A G) l))
      (list_p (with_filters (right_push k (schema l) (schema r) on A G) r)) ≤ max_list = le_trans (le-max_right _ _) inner in
      each_fits v.left.len v.right.len v.conditions.len
      (count_of v.left.len _ (sides_count h.left)
      (le_trans (filters_own _ l (left_plain k (schema l) (schema r) on p g)) (le_trans (le-max_left _ _) sides)))
      (count_of v.right.len _ (sides_count h.right)
      (le_trans (filters_own _ r (right_plain k (schema l) (schema r) on p g)) (le_trans (le-max_right _ _) sides)))
      (count_of v.conditions.len _ (lists_count h.conditions)
      (le_trans (le_of_eq (sym (conditions_count _ (conditions_plain k (schema l) (schema r) on p g)))) cs))

-- the inputs of a join have no longer list
pub inputs_few : (k : Kind) (l r : Plan) (on : List Pair) (f : Option Expr) → list_p (join k l r on f) ≤ max_list
    → (list_p l ≤ max_list) × (list_p r ≤ max_list)
unfolding list_p
inputs_few k l r on f h =
    let both = le_trans (le-max_right _ (larger (list_p l) (list_p r))) h in
    (le_trans (le-max_left (list_p l) (list_p r)) both, le_trans (le-max_right (list_p l) (list_p r)) both)
