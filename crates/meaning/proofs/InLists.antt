-- InList: the rules of docs/MEANING.md, each as a law, and that it is ISO/IEC 9075's.
--     not_in_with_null, not_in_with_column    examples, computed
--     in_list_null, in_list_negated   UNKNOWN for a NULL operand; NOT
--     not_in_never_true   of a list with a NULL item
--     in_list_equal, in_list_gap, in_list_no_gap      for an operand that is not NULL: by an equal item, else by a NULL one
--     in_list_one, in_list_or     the OR of Eq with each item
-- Assumes nothing.
use mathlib.Core.Path.{◌≡◌, refl}
use mathlib.Core.Bool.{Bool, true, false, not, ◌||◌, cond}
use mathlib.Core.List.{List, [], ◌∷◌, map}
use lib.Dec.{eqb}
use lib.IntN.{pos}
use Rattle.plan.specs.Lists.{◌&◌, any}
use Rattle.plan.proofs.Bools.{no_yes}
use Rattle.plan.specs.Syntax.{integer_type, Value, null, int, truth, eq, Name, Expr, col, num, nul, inlist, Exprs, enil, econs}
use Rattle.meaning.specs.Meaning.{World, Env, is_t, is_n, tri, or3, not3, kind_of, code, holds, compared, in_list, eval, evals}

-- the values 3, 4, 5 and NULL of a column
abbrev column_values : List Value
column_values = int (pos 3) ∷ int (pos 4) ∷ int (pos 5) ∷ null ∷ []

module _ (W : World) (c : Name) where
  -- c NOT IN (4, NULL)
  pub not_in_with_null : map (λ v. eval W (λ x. v) (inlist true (col c) (econs (num (pos 4)) (econs (nul integer_type) enil)))) column_values
      ≡ null ∷ truth false ∷ null ∷ null ∷ []
  unfolding any ◌&◌ eval
  not_in_with_null = refl

  -- 5 NOT IN (c, 4): an item is NULL by its value
  pub not_in_with_column : map (λ v. eval W (λ x. v) (inlist true (num (pos 5)) (econs (col c) (econs (num (pos 4)) enil)))) column_values
      ≡ truth true ∷ truth true ∷ truth false ∷ null ∷ []
  unfolding any ◌&◌ eval
  not_in_with_column = refl

-- whether an item equals the operand
abbrev equal_to : Value → List Value → Bool
equal_to operand items = any (λ item. is_t (compared eq operand item)) items

module _ (W : World) (ρ : Env) where
  -- InList is UNKNOWN for a NULL operand, negated or not
  pub in_list_null : (n : Bool) (a : Expr) (xs : Exprs) → eval W ρ a ≡ null → eval W ρ (inlist n a xs) ≡ null
  unfolding eval
  in_list_null true a xs h = rw h
  in_list_null false a xs h = rw h

  -- negated, it is the NOT of what it is
  pub in_list_negated : (a : Expr) (xs : Exprs) → eval W ρ (inlist true a xs) ≡ not3 (eval W ρ (inlist false a xs))
  unfolding eval
  in_list_negated a xs = refl

  -- with a NULL item NOT IN is never TRUE, whatever the operand
  pub not_in_never_true : (a : Expr) (xs : Exprs) → any is_n (evals W ρ xs) ≡ true → is_t (eval W ρ (inlist true a xs)) ≡ false
  unfolding eval
  not_in_never_true a xs g = rw g (go (is_n (eval W ρ a)) (equal_to (eval W ρ a) (evals W ρ xs)))
    where
      go : (n e : Bool) → is_t (not3 (cond n null (tri e (not true)))) ≡ false
      go true e = refl
      go false true = refl
      go false false = refl

  -- for an operand that is not NULL
  module _ (a : Expr) (xs : Exprs) (h : is_n (eval W ρ a) ≡ false) where
    abbrev an_equal_item : Bool
    an_equal_item = equal_to (eval W ρ a) (evals W ρ xs)

    abbrev a_null_item : Bool
    a_null_item = any is_n (evals W ρ xs)

    -- an equal item: TRUE
    pub in_list_equal : an_equal_item ≡ true → eval W ρ (inlist false a xs) ≡ truth true
    unfolding eval
    in_list_equal e = rw (e, h)

    -- no equal item and a NULL one: UNKNOWN
    pub in_list_gap : an_equal_item ≡ false → a_null_item ≡ true → eval W ρ (inlist false a xs) ≡ null
    unfolding eval
    in_list_gap e g = rw (e, g, h)

    -- no equal item and no NULL one: FALSE
    pub in_list_no_gap : an_equal_item ≡ false → a_null_item ≡ false → eval W ρ (inlist false a xs) ≡ truth false
    unfolding eval
    in_list_no_gap e g = rw (e, g, h)

-- ---- InList is ISO/IEC 9075's: Eq with one item, and with one item more the OR with its Eq

-- one of them is NULL, or both are of one type
abbrev alike : Value → Value → Bool
alike a b = is_n a || (is_n b || eqb (kind_of a) (kind_of b))

as_truth : (x : Bool) → tri (x || false) true ≡ truth x
as_truth true = refl
as_truth false = refl

or_null : (e n : Bool) → tri e false ≡ or3 null (tri e (not n))
unfolding ◌&◌
or_null true n = refl
or_null false true = refl
or_null false false = refl

or_truth : (x e n : Bool) → tri (x || e) (not n) ≡ or3 (truth x) (tri e (not n))
unfolding ◌&◌
or_truth true e n = refl
or_truth false true n = refl
or_truth false false true = refl
or_truth false false false = refl

pub in_list_one : (a item : Value) → alike a item ≡ true → in_list a (item ∷ []) ≡ compared eq a item
unfolding any ◌&◌
in_list_one null item t = refl
in_list_one (int z) null t = refl
in_list_one (int z) (int w) t = as_truth (holds eq z w)
in_list_one (int z) (truth b) t = no_yes t
in_list_one (truth c) null t = refl
in_list_one (truth c) (int w) t = no_yes t
in_list_one (truth c) (truth b) t = as_truth (holds eq (code (truth c)) (code (truth b)))

pub in_list_or : (a item next : Value) (items : List Value) → alike a item ≡ true
    → in_list a (item ∷ next ∷ items) ≡ or3 (compared eq a item) (in_list a (next ∷ items))
unfolding any ◌&◌
in_list_or null item next items t = refl
in_list_or (int z) null next items t = or_null (equal_to (int z) (next ∷ items)) (any is_n (next ∷ items))
in_list_or (int z) (int w) next items t = or_truth (holds eq z w) (equal_to (int z) (next ∷ items)) (any is_n (next ∷ items))
in_list_or (int z) (truth b) next items t = no_yes t
in_list_or (truth c) null next items t = or_null (equal_to (truth c) (next ∷ items)) (any is_n (next ∷ items))
in_list_or (truth c) (int w) next items t = no_yes t
in_list_or (truth c) (truth b) next items t =
    or_truth (holds eq (code (truth c)) (code (truth b))) (equal_to (truth c) (next ∷ items)) (any is_n (next ∷ items))
