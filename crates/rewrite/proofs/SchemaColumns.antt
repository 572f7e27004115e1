-- The source's `schema_columns` holds each field twice, with its qualifier and without. Over the inputs of an accepted join that says of a predicate
-- what `has_all_column_refs` says: a column without qualifier is a field without qualifier, and no other field has its name.
use mathlib.Core.Path.{◌≡◌, refl, sym, ap, ap₂, ◌∙◌}
use mathlib.Core.Bool.{Bool, true, false, not, ◌||◌}
use mathlib.Core.List.{List, [], ◌∷◌, ◌++◌, append-nil}
use lib.Dec.{eqb}
use borrow.Author.Tests.{eqb-true, eq-eqb}
use Rattle.plan.specs.Lists.{◌&◌, any}
use Rattle.plan.proofs.Lists.{and_l, and_r, and_intro}
use Rattle.plan.specs.Syntax.{Name, nm, Expr, col, num, bool, nul, bin, neg, test, between, inlist, fn, Exprs, enil, econs}
use Rattle.plan.specs.Schema.{same, has}
use Rattle.plan.specs.Columns.{on_cols, on_cols_all}
use Rattle.rewrite.specs.Utils.{has_all_column_refs}
use Rattle.acceptance.specs.Names.{clash, distinct_names, sound}

-- the field `y` stands in the set for the reference `x`, by its full name or without qualifier
abbrev pub stands_for : Name → Name → Bool
stands_for (nm r m) (nm q n) = eqb m n & (eqb r q || eqb q 0)

abbrev pub schema_columns : List Name → Name → Bool
schema_columns s x = any (λ y. stands_for y x) s

or_l : (a b : Bool) → a ≡ true → a || b ≡ true
or_l true b h = refl
or_l false b h = cc

or_r : (a b : Bool) → b ≡ true → a || b ≡ true
or_r true b h = refl
or_r false b h = h

same_stands : (y x : Name) → same y x ≡ true → stands_for y x ≡ true
same_stands (nm r m) (nm q n) h = and_intro (and_r _ _ h) (or_l _ _ (and_l (eqb r q) _ h))

-- a field that stands for `x` and is not `x` clashes with the field `x`
clashes : (y x z : Name) → stands_for y x ≡ true → same y x ≡ false → same z x ≡ true → clash y z ≡ true
unfolding ◌&◌
clashes (nm r m) (nm q n) (nm u w) h d e = go (eqb r q) refl
  where
    mn : m ≡ n
    mn = eqb-true m n (and_l _ _ h)

    wn : w ≡ n
    wn = eqb-true w n (and_r (eqb u q) _ e)

    uq : u ≡ q
    uq = eqb-true u q (and_l _ _ e)

    go : (b : Bool) → eqb r q ≡ b → eqb m w & (eqb r u || (eqb r 0 || eqb u 0)) ≡ true
    go true f = let z : eqb r q & eqb m n ≡ true = and_intro f (eq-eqb m n mn) in cc
    go false f =
        let k : eqb r q || eqb q 0 ≡ true = and_r (eqb m n) (eqb r q || eqb q 0) h in
        let bare : eqb q 0 ≡ true = rw f at k in
        and_intro (eq-eqb m w (mn ∙ sym wn)) (or_r (eqb r u) _ (or_r (eqb r 0) _ (ap (λ t. eqb t 0) uq ∙ bare)))

-- where the list holds `x` and clashes nowhere with `y`, `y` is `x` or does not stand for it
any_clash : (y x : Name) (s : List Name) → stands_for y x ≡ true → same y x ≡ false → has s x ≡ true → any (clash y) s ≡ true
unfolding any
any_clash y x [] h d k = k
any_clash y x (z ∷ s) h d k = go (same z x) refl k (any_clash y x s h d)
  where
    go : (b : Bool) → same z x ≡ b → b || has s x ≡ true → (has s x ≡ true → any (clash y) s ≡ true) → clash y z || any (clash y) s ≡ true
    go true e k ih = or_l _ _ (clashes y x z h d e)
    go false e k ih = or_r (clash y z) _ (ih k)

absurd_not : (b : Bool) → not b ≡ true → b ≡ true → ◌≡◌ {A = Bool} true false
absurd_not true h k = sym h
absurd_not false h k = sym k

-- the first part of a list that holds `x` somewhere
pub left_columns : (s t : List Name) → distinct_names (s ++ t) ≡ true → (x : Name) → has (s ++ t) x ≡ true → schema_columns s x ≡ has s x
unfolding any
left_columns [] t d x h = refl
left_columns (y ∷ s) t d x h = go (same y x) refl (stands_for y x) refl h (left_columns s t (and_r (not (any (clash y) (s ++ t))) _ d) x)
  where
    go : (b : Bool) → same y x ≡ b → (c : Bool) → stands_for y x ≡ c → b || has (s ++ t) x ≡ true
        → (has (s ++ t) x ≡ true → schema_columns s x ≡ has s x) → c || schema_columns s x ≡ b || has s x
    go true e true f h ih = refl
    go true e false f h ih = cc (same_stands y x e)
    go false e true f h ih = cc (absurd_not (any (clash y) (s ++ t)) (and_l _ _ d) (any_clash y x (s ++ t) f e h))
    go false e false f h ih = ih h

module _ {A : Type 0} where
  any_mono : (f g : A → Bool) → ((x : A) → f x ≡ true → g x ≡ true) → (xs : List A) → any f xs ≡ true → any g xs ≡ true
  unfolding any
  any_mono f g h [] k = k
  any_mono f g h (x ∷ xs) k = go (f x) refl k (any_mono f g h xs)
    where
      go : (b : Bool) → f x ≡ b → b || any f xs ≡ true → (any f xs ≡ true → any g xs ≡ true) → g x || any g xs ≡ true
      go true e k ih = or_l _ _ (h x e)
      go false e k ih = or_r (g x) _ (ih k)

  any_behind : (f : A → Bool) (xs ys : List A) → any f ys ≡ true → any f (xs ++ ys) ≡ true
  unfolding any
  any_behind f [] ys h = h
  any_behind f (x ∷ xs) ys h = or_r (f x) _ (any_behind f xs ys h)

-- what stands for the field `y` clashes with it
stands_clash : (y x z : Name) → same y x ≡ true → stands_for z x ≡ true → clash y z ≡ true
stands_clash (nm a b) (nm q n) (nm r m) e h = go (eqb r q) refl
  where
    aq : a ≡ q
    aq = eqb-true a q (and_l _ _ e)

    bm : b ≡ m
    bm = eqb-true b n (and_r (eqb a q) _ e) ∙ sym (eqb-true m n (and_l _ _ h))

    go : (c : Bool) → eqb r q ≡ c → eqb b m & (eqb a r || (eqb a 0 || eqb r 0)) ≡ true
    go true f = and_intro (eq-eqb b m bm) (or_l _ _ (eq-eqb a r (aq ∙ sym (eqb-true r q f))))
    go false f =
        let k : eqb r q || eqb q 0 ≡ true = and_r (eqb m n) (eqb r q || eqb q 0) h in
        let bare : eqb q 0 ≡ true = rw f at k in
        and_intro (eq-eqb b m bm) (or_r (eqb a r) _ (or_l _ _ (ap (λ t. eqb t 0) aq ∙ bare)))

is_false : (b : Bool) → (b ≡ true → ◌≡◌ {A = Bool} true false) → b ≡ false
is_false true h = h refl
is_false false h = refl

-- the second part
pub right_columns : (s t : List Name) → distinct_names (s ++ t) ≡ true → (x : Name) → has (s ++ t) x ≡ true → schema_columns t x ≡ has t x
unfolding any
right_columns [] t d x h = left_columns t [] (rw (append-nil t) d) x (rw (append-nil t) h)
right_columns (y ∷ s) t d x h = go (same y x) refl h (right_columns s t (and_r (not (any (clash y) (s ++ t))) _ d) x)
  where
    never : same y x ≡ true → schema_columns t x ≡ true → ◌≡◌ {A = Bool} true false
    never e k = absurd_not (any (clash y) (s ++ t)) (and_l _ _ d)
        (any_behind (clash y) s t (any_mono (λ z. stands_for z x) (clash y) (λ z i. stands_clash y x z e i) t k))

    go : (b : Bool) → same y x ≡ b → b || has (s ++ t) x ≡ true → (has (s ++ t) x ≡ true → schema_columns t x ≡ has t x)
        → schema_columns t x ≡ has t x
    go true e h ih = is_false (schema_columns t x) (never e)
        ∙ sym (is_false (has t x) (λ k. never e (any_mono (λ z. same z x) (λ z. stands_for z x) (λ z i. same_stands z x i) t k)))
    go false e h ih = ih h

-- ---- predicates

-- two tests of columns that agree where a third holds
module _ (c a b : Name → Bool) (f : (x : Name) → c x ≡ true → a x ≡ b x) where
  mutual
    unfolding on_cols

    on_cols_agree : (e : Expr) → on_cols c e ≡ true → on_cols a e ≡ on_cols b e
    on_cols_agree (col x) h = f x h
    on_cols_agree (num z) h = refl
    on_cols_agree (bool v) h = refl
    on_cols_agree (nul t) h = refl
    on_cols_agree (bin o x y) h = ap₂ ◌&◌ (on_cols_agree x (and_l _ _ h)) (on_cols_agree y (and_r _ _ h))
    on_cols_agree (neg x) h = on_cols_agree x h
    on_cols_agree (test t x) h = on_cols_agree x h
    on_cols_agree (between n x l u) h = ap₂ ◌&◌ (on_cols_agree x (and_l _ _ h))
        (ap₂ ◌&◌ (on_cols_agree l (and_l _ _ (and_r _ _ h))) (on_cols_agree u (and_r _ _ (and_r _ _ h))))
    on_cols_agree (inlist n x xs) h = ap₂ ◌&◌ (on_cols_agree x (and_l _ _ h)) (on_cols_all_agree xs (and_r _ _ h))
    on_cols_agree (fn p q r xs) h = on_cols_all_agree xs h

    on_cols_all_agree : (xs : Exprs) → on_cols_all c xs ≡ true → on_cols_all a xs ≡ on_cols_all b xs
    on_cols_all_agree enil h = refl
    on_cols_all_agree (econs x xs) h = ap₂ ◌&◌ (on_cols_agree x (and_l _ _ h)) (on_cols_all_agree xs (and_r _ _ h))

module _ (s t : List Name) (ok : sound (s ++ t) ≡ true) (e : Expr) (over : has_all_column_refs (s ++ t) e ≡ true) where
  -- is_left_only, is_right_only
  pub left_only : on_cols (schema_columns s) e ≡ has_all_column_refs s e
  unfolding sound
  left_only = on_cols_agree (has (s ++ t)) (schema_columns s) (has s) (left_columns s t (and_l _ _ ok)) e over

  pub right_only : on_cols (schema_columns t) e ≡ has_all_column_refs t e
  unfolding sound
  right_only = on_cols_agree (has (s ++ t)) (schema_columns t) (has t) (right_columns s t (and_l _ _ ok)) e over
