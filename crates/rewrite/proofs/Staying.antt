-- Filters and Joins that a rewrite leaves as they are: nothing moves, and what is joined again is as it was.
use mathlib.Core.Path.{◌≡◌, refl, sym, ap, ◌∙◌}
use mathlib.Core.Bool.{Bool, true, false, not}
use mathlib.Core.List.{List, [], ◌∷◌, ◌++◌}
use mathlib.Core.Option.{Option, none, some}
use Prim.Native.Nat.{ℕ}
use native.Mathlib.Omega.{arith}
use lib.ListN.{length}
use Rattle.plan.specs.Lists.{◌&◌, put, keep, flatten}
use Rattle.plan.specs.Schema.{schema}
use Rattle.plan.specs.Syntax.{Name, Expr, Pair, Kind, inner, left, right, full, left_semi, right_semi, left_anti, right_anti}
use Rattle.plan.specs.Syntax.{Plan, filter, join}
use Rattle.plan.proofs.Lists.{and_l, and_r}
use Rattle.rewrite.specs.Utils.{split_conjunction, split_conjunction?, conjunction, with_filters, is_empty}
use Rattle.rewrite.specs.PushDownFilter.{transformed_no, left_preserved, right_preserved, on_left_preserved, on_right_preserved}
use Rattle.rewrite.specs.PushDownFilter.{is_inner, push_to, push_not, rest, if_list, unpushed, on_filter_join_conditions, keep_predicates}
use Rattle.rewrite.specs.PushDownFilter.{join_conditions, inferred_join_predicates, left_push, right_push, nothing_moves, push_down_all_join}
use Rattle.rewrite.specs.PushDownFilter.{push_down_join}
use Rattle.rewrite.specs.PushDownFilter.{infer_join_predicates, extract_or_clauses_for_join, rewrite_filter}

-- ---- lists

pub none_in : {A : Type 0} (xs : List A) → is_empty xs ≡ true → xs ≡ []
none_in [] h = refl
none_in (x ∷ xs) h = let z : ◌≡◌ {A = ℕ} 0 1 = cc in absurd (omega arith)

pub none_of : {A : Type 0} (xs : List A) → length xs ≡ 0 → xs ≡ []
none_of [] h = refl
none_of (x ∷ xs) h = absurd (omega arith)

first_none : {A : Type 0} (xs ys : List A) → xs ++ ys ≡ [] → xs ≡ []
first_none [] ys h = refl
first_none (x ∷ xs) ys h = let z : ◌≡◌ {A = ℕ} 0 1 = cc in absurd (omega arith)

second_none : {A : Type 0} (xs ys : List A) → xs ++ ys ≡ [] → ys ≡ []
second_none [] ys h = h
second_none (x ∷ xs) ys h = let z : ◌≡◌ {A = ℕ} 0 1 = cc in absurd (omega arith)

-- where none passes a test, all fail it
pub all_left : {A : Type 0} (f : A → Bool) (xs : List A) → keep f xs ≡ [] → keep (λ x. not (f x)) xs ≡ xs
unfolding keep put
all_left f [] h = refl
all_left f (x ∷ xs) h = go (f x) h (λ k. all_left f xs k)
  where
    go : (b : Bool) → put b x (keep f xs) ≡ [] → (keep f xs ≡ [] → keep (λ x. not (f x)) xs ≡ xs)
        → put (not b) x (keep (λ x. not (f x)) xs) ≡ x ∷ xs
    go true k more = let z : ◌≡◌ {A = ℕ} 0 1 = cc in absurd (omega arith)
    go false k more = ap (x ∷◌) (more k)

-- ---- a predicate that is joined again

pub filtered : (es : List Expr) {e : Expr} (p : Plan) → conjunction es ≡ some e → with_filters es p ≡ filter e p
unfolding conjunction with_filters
filtered [] p h = let z : ◌≡◌ {A = ℕ} 0 1 = cc in absurd (omega arith)
filtered (x ∷ xs) p h = cc

-- ---- Join

pushed_none : (p q : Bool) (s t : List Name) (es : List Expr) → push_to p s es ≡ [] → push_to q t (push_not p s es) ≡ [] → rest p q s t es ≡ es
unfolding push_to push_not
pushed_none p q s t es h k = all_left _ (push_not p s es) k ∙ all_left _ es h

module _ (k : Kind) (s t : List Name) (on : List Pair) (P G : List Expr) (h : nothing_moves k s t on P G ≡ true) where
  pub conditions_none : join_conditions k s t on P G ≡ []
  conditions_none = none_in (join_conditions k s t on P G) (and_l _ _ h)

  pub left_none : left_push k s t on P G ≡ []
  left_none = none_in (left_push k s t on P G) (and_l _ _ (and_r _ _ h))

  pub right_none : right_push k s t on P G ≡ []
  right_none = none_in (right_push k s t on P G) (and_r _ _ (and_r _ _ h))

  unpushed_all : unpushed k s t on P G ≡ P
  unpushed_all = pushed_none (left_preserved k) (right_preserved k) s t P (first_none _ _ left_none) (first_none _ _ right_none)

  pub own_all : on_filter_join_conditions k s t on P G ≡ G
  own_all =
      let is = inferred_join_predicates k s t on P G in
      let own-left = second_none (push_to true s is) _ (second_none (push_to (left_preserved k) s P) _ left_none) in
      let own-right =
      second_none (push_to true t (push_not true s is)) _
      (second_none (push_to (right_preserved k) t (push_not (left_preserved k) s P)) _ right_none) in
      pushed_none (on_left_preserved k) (on_right_preserved k) s t G (first_none _ _ own-left) (first_none _ _ own-right)

  pub kept_all : keep_predicates k s t on P G ≡ P
  kept_all = go (is_inner k) conditions_none
    where
      go : (b : Bool) → if_list b (unpushed k s t on P G) ≡ [] → if_list (not b) (unpushed k s t on P G) ≡ P
      go true e = sym e ∙ unpushed_all
      go false e = unpushed_all

-- the join over such lists
over_none : (k : Kind) (l r : Plan) (on : List Pair) (K L R C O P G : List Expr) (b : Bool) → K ≡ P → L ≡ [] → R ≡ [] → C ≡ [] → O ≡ G → b ≡ true
    → record { plan = with_filters K (join k (with_filters L l) (with_filters R r) on (conjunction (C ++ O))); transformed = not b }
    ≡ transformed_no (with_filters P (join k l r on (conjunction G)))
unfolding with_filters
over_none k l r on K L R C O P G b kept lefts rights conditions own unmoved = rw (kept, lefts, rights, conditions, own, unmoved)

-- nothing moves: the predicates are joined again above the join, and its own filter in it
pub join_unmoved : (k : Kind) (l r : Plan) (on : List Pair) (P G : List Expr) → nothing_moves k (schema l) (schema r) on P G ≡ true
    → push_down_all_join k l r on P G ≡ transformed_no (with_filters P (join k l r on (conjunction G)))
unfolding push_down_all_join
join_unmoved k l r on P G h =
    let s = schema l in
    let t = schema r in
    over_none k l r on (keep_predicates k s t on P G) (left_push k s t on P G) (right_push k s t on P G) (join_conditions k s t on P G)
    (on_filter_join_conditions k s t on P G) P G (nothing_moves k s t on P G) (kept_all k s t on P G h) (left_none k s t on P G h)
    (right_none k s t on P G h) (conditions_none k s t on P G h) (own_all k s t on P G h) h

module _ (k : Kind) (l r : Plan) (on : List Pair) (f : Option Expr) (own : conjunction (split_conjunction? f) ≡ f) where
  -- a Join
  pub join_stays : nothing_moves k (schema l) (schema r) on [] (split_conjunction? f) ≡ true
      → push_down_join k l r on f [] ≡ transformed_no (join k l r on f)
  unfolding with_filters
  join_stays h = join_unmoved k l r on [] (split_conjunction? f) h ∙ ap (λ o. transformed_no (join k l r on o)) own

  -- a Filter over it
  pub filter_join_stays : (e : Expr) → conjunction (split_conjunction e) ≡ some e
      → nothing_moves k (schema l) (schema r) on (split_conjunction e) (split_conjunction? f) ≡ true
      → rewrite_filter e (join k l r on f) ≡ transformed_no (filter e (join k l r on f))
  unfolding rewrite_filter
  filter_join_stays e deep h =
      join_unmoved k l r on (split_conjunction e) (split_conjunction? f) h
      ∙ ap (λ o. transformed_no (with_filters (split_conjunction e) (join k l r on o))) own
      ∙ ap transformed_no (filtered (split_conjunction e) (join k l r on f) deep)

-- a Join without a filter of its own
bare_unmoved : (k : Kind) (s t : List Name) (on : List Pair) → nothing_moves k s t on [] [] ≡ true
unfolding ◌&◌ keep flatten push_to push_not infer_join_predicates extract_or_clauses_for_join
bare_unmoved inner s t on = refl
bare_unmoved left s t on = refl
bare_unmoved right s t on = refl
bare_unmoved full s t on = refl
bare_unmoved left_semi s t on = refl
bare_unmoved right_semi s t on = refl
bare_unmoved left_anti s t on = refl
bare_unmoved right_anti s t on = refl

pub bare_join_stays : (k : Kind) (l r : Plan) (on : List Pair) → push_down_join k l r on none [] ≡ transformed_no (join k l r on none)
unfolding conjunction split_conjunction?
bare_join_stays k l r on = join_stays k l r on none refl (bare_unmoved k (schema l) (schema r) on)
