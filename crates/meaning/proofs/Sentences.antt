-- Rules of docs/MEANING.md, each as a law of the definitions that is seen by computing.
use Prim.Native.Nat.{ℕ}
use mathlib.Core.Path.{◌≡◌, refl}
use mathlib.Core.Bool.{Bool, true, false}
use mathlib.Core.List.{List, [], ◌∷◌, ◌++◌, map}
use lib.ListN.{length, take, drop}
use lib.IntN.{ℤ, pos}
use Rattle.plan.specs.Lists.{◌&◌, keep, flatten}
use Rattle.plan.specs.Syntax.{Value, null, int, truth, Name, Cmp, le, and, cmp, Expr, bin, between, AggEntry, count, min}
use Rattle.plan.specs.Syntax.{max, left, full, right_anti, Plan, limit, repartition, union, pnil, pcons}
use Rattle.meaning.specs.Meaning.{World, Row, Env, compared, sorts_before, same_v, nulls, joined, aggregated, grouped, eval, rows}

-- ---- expressions

-- a comparison with NULL is UNKNOWN, on either side
pub null_compared : (c : Cmp) (v : Value) → compared c null v ≡ null
unfolding ◌&◌
null_compared c v = refl

pub compared_null : (c : Cmp) (v : Value) → compared c v null ≡ null
unfolding ◌&◌
compared_null c null = refl
compared_null c (int z) = refl
compared_null c (truth b) = refl

module _ (W : World) (ρ : Env) where
  -- Between is low <= operand AND operand <= high
  pub between_is : (a low high : Expr)
      → eval W ρ (between false a low high) ≡ eval W ρ (bin and (bin (cmp le) low a) (bin (cmp le) a high))
  unfolding eval
  between_is a low high = refl

-- ---- plans

module _ (m : Row → Row → Bool) (nl nr : ℕ) (rs : List Row) where
  -- a left row without a match has NULL for the missing side
  pub left_missing : (l : Row) → keep (m l) rs ≡ [] → joined left m nl nr (l ∷ []) rs ≡ (l ++ nulls nr) ∷ []
  unfolding flatten
  left_missing l h = rw h

  -- a left row that matches one right row and no other
  pub left_matched : (l r : Row) → keep (m l) rs ≡ r ∷ [] → joined left m nl nr (l ∷ []) rs ≡ (l ++ r) ∷ []
  unfolding flatten
  left_matched l r h = rw h

  -- Full adds unmatched right rows last, with NULL for the missing left side
  pub full_adds : (ls : List Row)
      → joined full m nl nr ls rs ≡ joined left m nl nr ls rs ++ map (nulls nl ++◌) (joined right_anti m nl nr ls rs)
  full_adds ls = refl

-- Sort puts NULL last, ascending and descending
pub null_last : (desc : Bool) (z : ℤ) → sorts_before desc (int z) null ≡ true
unfolding sorts_before ◌&◌
null_last desc z = refl

pub null_not_first : (desc : Bool) (v : Value) → sorts_before desc null v ≡ false
unfolding sorts_before ◌&◌
null_not_first desc v = refl

-- NULL is equal to NULL in groups, partitions and Distinct
pub null_same : same_v null null ≡ true
unfolding ◌&◌
null_same = refl

-- Count of no values is 0; Min and Max skip NULL, and give NULL for none
pub count_none : aggregated count [] ≡ int (pos 0)
count_none = refl

pub count_skips_null : (vs : List Value) → aggregated count (null ∷ vs) ≡ aggregated count vs
count_skips_null vs = refl

pub min_none : aggregated min [] ≡ null
min_none = refl

pub max_none : aggregated max [] ≡ null
max_none = refl

pub min_skips_null : (vs : List Value) → aggregated min (null ∷ vs) ≡ aggregated min vs
min_skips_null vs = refl

pub max_skips_null : (vs : List Value) → aggregated max (null ∷ vs) ≡ aggregated max vs
max_skips_null vs = refl

module _ (W : World) where
  -- an Aggregate without group entries gives one row, for no rows too
  pub groupless_one : (s : List Name) (ags : List AggEntry) (rs : List Row) → length (grouped W s [] ags rs) ≡ 1
  groupless_one s ags rs = refl

  -- Limit skips, then takes
  pub limit_rows : (fetch skip : ℕ) (p : Plan) → rows W (limit fetch skip p) ≡ take fetch (drop skip (rows W p))
  unfolding rows
  limit_rows fetch skip p = refl

  -- Repartition keeps its input's order
  pub repartition_rows : (p : Plan) → rows W (repartition p) ≡ rows W p
  unfolding rows
  repartition_rows p = refl

  -- Union gives its inputs' rows, one input after another
  pub union_of_two : (p q : Plan) → rows W (union (pcons p (pcons q pnil))) ≡ rows W p ++ (rows W q ++ [])
  unfolding rows
  union_of_two p q = refl
