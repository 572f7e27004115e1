-- The meaning of expressions and plans: the rules of docs/MEANING.md, each above what says it. Where the rules are silent ISO/IEC 9075
-- speaks: truth in three values, Projection, SubqueryAlias. Assumes nothing.
--
-- A thing is defined before it is used, so the rules about values come first, then those about each kind of plan; `rows` stands at the
-- end.
use Rattle.std.specs.Prelude.{ℕ, suc, Bool, true, false, not, ◌||◌, cond, List, [], ◌∷◌, ◌++◌, map, length, take, drop, replicate, eqb, ℤ, pos}
use Rattle.std.proofs.Math.Option.{Option, none, some}
use Rattle.std.specs.Int.Signed.{lt_z, le_z}
use Rattle.plan.specs.Schema.{look_d, schema}
use Rattle.plan.specs.Lists.{◌&◌, keep, all, any, flatten}
use Rattle.plan.specs.Syntax.{Value, null, int, truth, Name, Cmp, eq, ne, lt, le, gt, ge, Op, and, or, cmp, Test, is_null, is_not_null, is_true}
use Rattle.plan.specs.Syntax.{is_false, is_unknown, is_not_true, is_not_false, is_not_unknown, Expr, col, num, bool, nul, bin, neg, test, between}
use Rattle.plan.specs.Syntax.{inlist, fn, Exprs, enil, econs, Field, Entry, Pair, Key, Agg, count, min, max, AggEntry, WinEntry, Kind}
use Rattle.plan.specs.Syntax.{inner, left, right, full, left_semi, right_semi, left_anti, right_anti, Plan, scan, filter, project, join, alias}
use Rattle.plan.specs.Syntax.{union, distinct, sort, repartition, limit, aggregate, window, Plans, pnil, pcons}
-- whether a value is NULL, the number of its type, and where it stands in the order of its type
pub use Rattle.plan.specs.Values.{is_n, kind_of, code}

-- ---- rows, tables, functions

-- a value or NULL for each field, by place
abbrev pub Row : Type 0
Row = List Value

-- what is not in the plan: the functions' meaning, by p, q, r and the arguments; the tables, by number, so that scans of one table read the
-- same rows
pub record World : Type 0 where
  pub fun : ℕ → ℕ → ℕ → List Value → Value
  pub table : ℕ → List Row

-- the values of the columns
abbrev pub Env : Type 0
Env = Name → Value

-- the columns of a row over a schema; a reference names a field of it, so the NULL for other names is never read
abbrev pub look : List Name → Row → Env
look s r = look_d null s r

-- ---- truth in three values (ISO/IEC 9075): TRUE, FALSE, and UNKNOWN, which is NULL

abbrev pub is_t : Value → Bool
is_t null = false
is_t (int z) = false
is_t (truth b) = b

abbrev pub is_f : Value → Bool
is_f null = false
is_f (int z) = false
is_f (truth b) = not b

-- the truth that is TRUE if the first, FALSE if the second answer is yes, else UNKNOWN
abbrev pub tri : Bool → Bool → Value
tri true f = truth true
tri false true = truth false
tri false false = null

abbrev pub and3 : Value → Value → Value
and3 a b = tri (is_t a & is_t b) (is_f a || is_f b)

abbrev pub or3 : Value → Value → Value
or3 a b = tri (is_t a || is_t b) (is_f a & is_f b)

abbrev pub not3 : Value → Value
not3 a = tri (is_f a) (is_t a)

-- Between and InList may be negated
abbrev pub negate : Bool → Value → Value
negate true a = not3 a
negate false a = a

-- IsNull, IsNotNull, and the tests of truth: never UNKNOWN themselves
abbrev pub tested : Test → Value → Bool
tested is_null a = is_n a
tested is_not_null a = not (is_n a)
tested is_true a = is_t a
tested is_false a = is_f a
tested is_unknown a = not (is_t a) & not (is_f a)
tested is_not_true a = not (is_t a)
tested is_not_false a = not (is_f a)
tested is_not_unknown a = is_t a || is_f a

-- ---- comparisons: operands of comparisons, Between and InList share a type (docs/FORMAT.md, Types); FALSE is below TRUE

abbrev pub holds : Cmp → ℤ → ℤ → Bool
holds eq a b = le_z a b & le_z b a
holds ne a b = not (le_z a b & le_z b a)
holds lt a b = lt_z a b
holds le a b = le_z a b
holds gt a b = lt_z b a
holds ge a b = le_z b a

-- neither is NULL, and both are of one type
abbrev pub comparable : Value → Value → Bool
comparable a b = not (is_n a) & eqb (kind_of a) (kind_of b)

-- a comparison with NULL is UNKNOWN
abbrev pub compared : Cmp → Value → Value → Value
compared c a b = cond (comparable a b) (truth (holds c (code a) (code b))) null

-- Between is low <= operand AND operand <= high
abbrev pub within : Value → Value → Value → Value
within operand low high = and3 (compared le low operand) (compared le operand high)

-- InList is UNKNOWN for a NULL operand; else TRUE if an item equals it, and if none does UNKNOWN if an item is NULL, FALSE if none is
abbrev pub in_list : Value → List Value → Value
in_list operand items = cond (is_n operand) null (tri (any (λ item. is_t (compared eq operand item)) items) (not (any is_n items)))

-- ---- expressions

abbrev pub binary : Op → Value → Value → Value
binary and a b = and3 a b
binary or a b = or3 a b
binary (cmp c) a b = compared c a b

module _ (W : World) where
  unfoldable mutual
    pub eval : Env → Expr → Value
    eval ρ (col x) = ρ x
    eval ρ (num z) = int z
    eval ρ (bool b) = truth b
    eval ρ (nul t) = null
    eval ρ (bin o a b) = binary o (eval ρ a) (eval ρ b)
    eval ρ (neg a) = not3 (eval ρ a)
    eval ρ (test t a) = truth (tested t (eval ρ a))
    eval ρ (between n a l h) = negate n (within (eval ρ a) (eval ρ l) (eval ρ h))
    eval ρ (inlist n a xs) = negate n (in_list (eval ρ a) (evals ρ xs))
    eval ρ (fn p q r xs) = W.fun p q r (evals ρ xs)

    pub evals : Env → Exprs → List Value
    evals ρ enil = []
    evals ρ (econs x xs) = eval ρ x ∷ evals ρ xs

  -- the expressions of entries, in a row over a schema
  abbrev pub entries : List Name → List Entry → Row → Row
  entries s es r = map (λ (e : Entry). eval (look s r) e.expr) es

  -- ---- TableScan, Filter

  -- the predicate is TRUE of the row
  abbrev pub sat : List Name → Expr → Row → Bool
  sat s e r = is_t (eval (look s r) e)

  -- all filters of a scan are TRUE of the row
  abbrev pub sats : List Name → List Expr → Row → Bool
  sats s es r = all (λ e. sat s e r) es

  -- a join's filter, if it has one
  abbrev pub sat? : List Name → Option Expr → Row → Bool
  sat? s none r = true
  sat? s (some e) r = sat s e r

-- ---- Join: `m` says which rows match, `nl` and `nr` how many fields each side has

-- a missing side is NULL in every field
abbrev pub nulls : ℕ → Row
nulls n = replicate n null

-- a list, or one element where it is empty
abbrev pub or_else : {A : Type 0} → A → List A → List A
or_else d [] = d ∷ []
or_else d (x ∷ xs) = x ∷ xs

-- a loop over `xs`: each takes its matches in the other side's order, put together by `f`; one without a match gives `d`
abbrev pub outer : {A B C : Type 0} → (A → B → Bool) → (A → B → C) → (A → C) → List A → List B → List C
outer m f d xs ys = flatten (λ x. or_else (d x) (map (f x) (keep (m x) ys))) xs

-- Right, RightSemi and RightAnti loop over the right rows, other joins over the left rows. A semi join gives a row of its own side once if
-- any row matches it, an anti join once if none does, with that side's fields only. Full adds the unmatched right rows last
abbrev pub joined : Kind → (Row → Row → Bool) → ℕ → ℕ → List Row → List Row → List Row
joined inner m nl nr ls rs = flatten (λ l. map (l ++◌) (keep (m l) rs)) ls
joined left m nl nr ls rs = outer m ◌++◌ (◌++ nulls nr) ls rs
joined right m nl nr ls rs = outer (λ r l. m l r) (λ r l. l ++ r) (nulls nl ++◌) rs ls
joined full m nl nr ls rs =
    outer m ◌++◌ (◌++ nulls nr) ls rs
    ++ map (nulls nl ++◌) (keep (λ r. not (any (λ l. m l r) ls)) rs)
joined left_semi m nl nr ls rs = keep (λ l. any (m l) rs) ls
joined right_semi m nl nr ls rs = keep (λ r. any (λ l. m l r) ls) rs
joined left_anti m nl nr ls rs = keep (λ l. not (any (m l) rs)) ls
joined right_anti m nl nr ls rs = keep (λ r. not (any (λ l. m l r) ls)) rs

module _ (W : World) where
  -- Eq of every key pair is TRUE
  abbrev pub keys_match : List Name → List Name → List Pair → Row → Row → Bool
  keys_match s t on l r = all (λ (k : Pair). is_t (compared eq (eval W (look s l) k.lhs) (eval W (look t r) k.rhs))) on

  -- rows match in a join if Eq of every key pair and the filter are TRUE, the filter over the fields of both sides
  abbrev pub matching : List Name → List Name → List Pair → Option Expr → Row → Row → Bool
  matching s t on f l r = keys_match s t on l r & sat? W (s ++ t) f (l ++ r)

-- ---- Distinct, and what Aggregate and Window group by

-- groups, partitions and Distinct take NULL as equal to NULL
abbrev pub same_v : Value → Value → Bool
same_v a b = eqb (kind_of a) (kind_of b) & holds eq (code a) (code b)

abbrev pub same_row : Row → Row → Bool
same_row [] [] = true
same_row [] (w ∷ s) = false
same_row (v ∷ r) [] = false
same_row (v ∷ r) (w ∷ s) = same_v v w & same_row r s

-- Distinct and Aggregate go by first occurrence
abbrev pub first_occurrences : List Row → List Row
first_occurrences [] = []
first_occurrences (r ∷ rs) = r ∷ keep (λ s. not (same_row r s)) (first_occurrences rs)

-- ---- Sort

-- NULL comes last, descending too: `a` stands strictly before `b` under one key
unfoldable pub sorts_before : Bool → Value → Value → Bool
sorts_before desc a b = not (is_n a) & (is_n b || cond desc (lt_z (code b) (code a)) (lt_z (code a) (code b)))

-- by the one order, and where it does not tell the two apart, by the other
unfoldable pub lex : {A : Type 0} → (A → A → Bool) → (A → A → Bool) → A → A → Bool
lex u v a b = u a b || (not (u b a) & v a b)

module _ (W : World) where
  -- by the first key that tells the two rows apart
  abbrev pub sorts_before_row : List Name → List Key → Row → Row → Bool
  sorts_before_row s [] a b = false
  sorts_before_row s (k ∷ ks) a b =
      lex (λ a b. sorts_before k.desc (eval W (look s a) k.expr) (eval W (look s b) k.expr)) (sorts_before_row s ks) a b

module _ {A : Type 0} (under : A → A → Bool) where
  -- a Sort is stable: `x` goes in front of the first that does not stand strictly before it, so that equals keep their order
  abbrev pub insert_row : A → List A → List A
  insert_row x [] = x ∷ []
  insert_row x (y ∷ ys) = cond (under y x) (y ∷ insert_row x ys) (x ∷ y ∷ ys)

  abbrev pub sorted : List A → List A
  sorted [] = []
  sorted (x ∷ xs) = insert_row x (sorted xs)

-- a Sort then takes its fetch, if it has one
abbrev pub fetched : {A : Type 0} → Option ℕ → List A → List A
fetched none xs = xs
fetched (some n) xs = take n xs

-- ---- Limit

-- a Limit skips, then takes
abbrev pub limited : {A : Type 0} → ℕ → ℕ → List A → List A
limited fetch skip xs = take fetch (drop skip xs)

-- ---- Aggregate, Window

-- Count counts the values that are not NULL
abbrev pub counted : List Value → ℕ
counted [] = 0
counted (v ∷ vs) = cond (is_n v) (counted vs) (suc (counted vs))

-- Min and Max skip NULL, and give NULL for no value: the one that `under` puts first
abbrev pub extreme : (ℤ → ℤ → Bool) → List Value → Value
extreme under [] = null
extreme under (v ∷ vs) = let w = extreme under vs in cond (is_n v) w (cond (is_n w) v (cond (under (code w) (code v)) w v))

abbrev pub aggregated : Agg → List Value → Value
aggregated count vs = int (pos (counted vs))
aggregated min vs = extreme lt_z vs
aggregated max vs = extreme (λ a b. lt_z b a) vs

-- the keys of the groups; an Aggregate without group entries has one, and so one row
abbrev pub group_keys : List Entry → List Row → List Row
group_keys [] ks = [] ∷ []
group_keys (g ∷ gs) ks = first_occurrences ks

module _ (W : World) where
  -- the entries of one group, which has the rows `rs`
  abbrev pub agg_entries : List Name → List AggEntry → List Row → Row
  agg_entries s ags rs = map (λ (a : AggEntry). aggregated a.fun (map (λ r. eval W (look s r) a.expr) rs)) ags

  -- an Aggregate gives its group entries, then its entries
  abbrev pub grouped : List Name → List Entry → List AggEntry → List Row → List Row
  grouped s gs ags rs =
      map (λ k. k ++ agg_entries s ags (keep (λ r. same_row k (entries W s gs r)) rs))
      (group_keys gs (map (entries W s gs) rs))

  -- an entry of a Window for the row `r`: over the rows of its partition
  abbrev pub win_entry : List Name → List Row → Row → WinEntry → Value
  win_entry s rs r w =
      aggregated w.fun
      (map (λ t. eval W (look s t) w.expr) (keep (λ t. same_row (map (look s r) w.parts) (map (look s t) w.parts)) rs))

  -- a Window adds its entries to its input's fields, and keeps its input's order
  abbrev pub windowed : List Name → List WinEntry → List Row → List Row
  windowed s ws rs = map (λ r. r ++ map (win_entry s rs r) ws) rs

-- ---- the rows of a plan: they form a list

module _ (W : World) where
  unfoldable mutual
    unfolding schema

    pub rows : Plan → List Row
    -- a scan hands up its table's rows, in order, for which all its filters are TRUE
    rows (scan t fs es) = keep (sats W (map (λ (f : Field). f.name) fs) es) (W.table t)
    -- a Filter keeps the rows where the predicate is TRUE
    rows (filter e p) = keep (sat W (schema p) e) (rows p)
    rows (join k l r on f) =
        joined k (matching W (schema l) (schema r) on f) (length (schema l)) (length (schema r)) (rows l) (rows r)
    rows (distinct p) = first_occurrences (rows p)
    rows (aggregate gs ags p) = grouped W (schema p) gs ags (rows p)
    rows (sort f ks p) = fetched f (sorted (sorts_before_row W (schema p) ks) (rows p))
    rows (limit n k p) = limited n k (rows p)
    rows (window ws p) = windowed W (schema p) ws (rows p)
    -- a Repartition keeps its input's order
    rows (repartition p) = rows p
    -- a Union gives its inputs' rows, one input after another
    rows (union ps) = rows_all ps
    -- a Projection gives its entries for each row, a SubqueryAlias the rows themselves
    rows (project es p) = map (entries W (schema p) es) (rows p)
    rows (alias q p) = rows p

    pub rows_all : Plans → List Row
    rows_all pnil = []
    rows_all (pcons p ps) = rows p ++ rows_all ps
