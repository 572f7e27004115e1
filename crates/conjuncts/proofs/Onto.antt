-- `onto` makes lists without repeats.
--     onto_next, onto_end      a walk along the list that is appended
--     onto_unique              two lists, one after the other onto none, are `unique` of both
-- Assumes nothing.
use mathlib.Core.Path.{◌≡◌, refl, sym, ap, ◌∙◌}
use mathlib.Core.Bool.{Bool, true, false, not, ◌||◌}
use mathlib.Core.List.{List, [], ◌∷◌, ◌++◌, append_assoc, append-nil}
use Prim.Native.Nat.{ℕ, ◌+◌, ◌<◌}
use lib.ListN.{length, get_or, drop}
use Rattle.plan.specs.Syntax.{Expr}
use Rattle.plan.specs.Lists.{◌&◌, put, keep, any}
use Rattle.plan.proofs.Lists.{all_of, keep_keep, keep_cong, keep_all}
use Rattle.rewrite.specs.Utils.{same_e, unique}
use Rattle.rewrite.proofs.Exprs.{same_e_eq}
use Rattle.conjuncts.specs.Items.{FALSE}
use Rattle.conjuncts.specs.Onto.{is_in, onto}
use Rattle.conjuncts.proofs.Listed.{next}
use Rattle.conjuncts.proofs.FunctionsIn.{or_nil}

pub onto_next : (fs es : List Expr) (i : ℕ) → i < length es
    → onto fs (drop i es) ≡ onto (fs ++ put (not (is_in fs (get_or es i FALSE))) (get_or es i FALSE) []) (drop (i + 1) es)
unfolding onto
onto_next fs es i h = rw (next es i h)

pub onto_end : (fs : List Expr) → onto fs [] ≡ fs
unfolding onto
onto_end fs = refl

onto_append : (fs xs ys : List Expr) → onto fs (xs ++ ys) ≡ onto (onto fs xs) ys
unfolding onto
onto_append fs [] ys = refl
onto_append fs (x ∷ xs) ys = onto_append (fs ++ put (not (is_in fs x)) x []) xs ys

-- not in a list that one more is appended to
not_or : (a b : Bool) → not (a || b) ≡ not b & not a
unfolding ◌&◌
not_or true true = refl
not_or true false = refl
not_or false true = refl
not_or false false = refl

or_assoc : (a b c : Bool) → ((a || b) || c) ≡ (a || (b || c))
or_assoc true b c = refl
or_assoc false b c = refl

any_append : (f : Expr → Bool) (xs ys : List Expr) → any f (xs ++ ys) ≡ (any f xs || any f ys)
unfolding any
any_append f [] ys = refl
any_append f (x ∷ xs) ys = rw (any_append f xs ys, or_assoc)

one_more : (fs : List Expr) (e x : Expr) → not (is_in (fs ++ (e ∷ [])) x) ≡ not (same_e e x) & not (is_in fs x)
unfolding any
one_more fs e x = rw (any_append (λ y. same_e y x) fs (e ∷ []), or_nil) (not_or (is_in fs x) (same_e e x))

-- what equals one that is there is there
there : (fs : List Expr) (e x : Expr) → is_in fs e ≡ true → not (same_e e x) & not (is_in fs x) ≡ not (is_in fs x)
unfolding ◌&◌
there fs e x h = go (same_e e x) refl
  where
    go : (b : Bool) → same_e e x ≡ b → not b & not (is_in fs x) ≡ not (is_in fs x)
    go false k = refl
    go true k = rw (← same_e_eq e x k, h)

onto_is : (fs es : List Expr) → onto fs es ≡ fs ++ keep (λ x. not (is_in fs x)) (unique es)
unfolding onto unique keep put
onto_is fs [] = sym (append-nil fs)
onto_is fs (e ∷ es) = go (λ gs. onto_is gs es) (is_in fs e) refl
  where
    go : ((gs : List Expr) → onto gs es ≡ gs ++ keep (λ x. not (is_in gs x)) (unique es)) → (b : Bool) → is_in fs e ≡ b
        → onto (fs ++ put (not b) e []) es ≡ fs ++ put (not b) e (keep (λ x. not (is_in fs x)) (keep (λ x. not (same_e e x)) (unique es)))
    go is true h =
        rw (append-nil fs) (is fs)
        ∙ ap (fs ++◌) (sym (keep_keep _ _ (unique es) ∙ keep_cong _ _ (all_of (λ x. there fs e x h) (unique es))))
    go is false h =
        is (fs ++ (e ∷ []))
        ∙ (append_assoc fs (e ∷ []) _
        ∙ ap (λ (l : List Expr). fs ++ (e ∷ l)) (keep_cong _ _ (all_of (λ x. one_more fs e x) (unique es)) ∙ sym (keep_keep _ _ (unique es))))

pub onto_unique : (xs ys : List Expr) → onto (onto [] xs) ys ≡ unique (xs ++ ys)
unfolding any
onto_unique xs ys = sym (onto_append [] xs ys) ∙ (onto_is [] (xs ++ ys) ∙ keep_all (unique (xs ++ ys)))
