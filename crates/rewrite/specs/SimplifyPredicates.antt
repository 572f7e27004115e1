-- src/simplify_expressions/simplify_predicates.rs, with D1, D2 and D3. Definitions only; that they keep truth is proved in Simplify.
use Rattle.std.specs.Prelude.{ℕ, Bool, true, false, not, ◌||◌, cond, List, [], ◌∷◌, ◌++◌, map, eqb, ltb, ℤ}
use Rattle.std.proofs.Math.Option.{Option, none, some}
use Rattle.std.specs.Int.Signed.{lt_z}
use Rattle.plan.specs.Lists.{◌&◌, choose, all, flatten}
use Rattle.plan.specs.Syntax.{Value, Name, nm, Cmp, eq, ne, lt, le, gt, ge, Expr, col, num, bool, nul, bin, and, or, cmp, neg, test}
use Rattle.plan.specs.Syntax.{between, inlist, fn}
use Rattle.meaning.specs.Meaning.{is_n, kind_of, code, same_v}
use Rattle.plan.specs.Schema.{same}
use Rattle.plan.specs.Values.{ValueRecord, literal_is, literal_in, literal?}

-- ---- a comparison of a column with a literal, as it was written

-- the value of a literal
abbrev pub lit_val : ValueRecord → Value
lit_val l = l.case

-- what it is to its column: an equality, a lower bound, an upper bound; strict or not
pub data Rel : Type 0 where
  same_as : Rel
  above below : Bool → Rel

-- its operator; the literal stands on the right, or (flipped) on the left
abbrev pub rel_cmp : Bool → Rel → Cmp
rel_cmp flipped same_as = eq
rel_cmp false (above true) = gt
rel_cmp false (above false) = ge
rel_cmp false (below true) = lt
rel_cmp false (below false) = le
rel_cmp true (above true) = lt
rel_cmp true (above false) = le
rel_cmp true (below true) = gt
rel_cmp true (below false) = ge

-- the comparison again
unfoldable pub bound_of : Bool → Rel → Name → ValueRecord → Expr
bound_of false r x l = bin (cmp (rel_cmp false r)) (col x) (literal_is l)
bound_of true r x l = bin (cmp (rel_cmp true r)) (literal_is l) (col x)

-- ---- find_most_restrictive_predicate

-- a bound on one side of its column
pub record Side : Type 0 where
  pub strict : Bool
  pub lit : ValueRecord
  pub flipped : Bool

-- the value of its literal
abbrev pub val : Side → Value
val d = lit_val d.lit

-- at equal literals a later bound replaces the one held if its operator is the side's own, Gt for a lower bound and Lt for an upper one;
-- D2: and also if it is strict and the one held is loose
abbrev pub at_equal : Side → Side → Bool
at_equal held d = d.strict & (not d.flipped || not held.strict)

-- `past a b`: the literal b lies strictly further than a. D3: NULL is the strongest of either kind
abbrev pub is_better : (ℤ → ℤ → Bool) → Side → Side → Bool
is_better past held d =
    cond (is_n (val held)) (is_n (val d) & at_equal held d)
    (cond (is_n (val d)) true
    (past (code (val held)) (code (val d)) || (not (past (code (val d)) (code (val held))) & at_equal held d)))

-- the one to hold of two
abbrev pub stronger : (ℤ → ℤ → Bool) → Side → Side → Side
stronger past held d = choose (is_better past held d) d held

-- find_most_restrictive_predicate: through the list in order
abbrev pub find_most_restrictive_predicate : (ℤ → ℤ → Bool) → Side → List Side → Side
find_most_restrictive_predicate past held [] = held
find_most_restrictive_predicate past held (d ∷ l) = find_most_restrictive_predicate past (stronger past held d) l

-- the kind of the first literal that is not NULL
abbrev pub first_kind : List Side → ℕ
first_kind [] = 0
first_kind (d ∷ l) = cond (is_n (val d)) (first_kind l) (kind_of (val d))

-- it is NULL, or of that kind
abbrev pub of_kind : ℕ → Side → Bool
of_kind k d = is_n (val d) || eqb (kind_of (val d)) k

-- of a list the most restrictive; all of it where the literals are not of one kind, which no accepted plan has (there the source fails)
abbrev pub most_restrictive : (ℤ → ℤ → Bool) → List Side → List Side
most_restrictive past [] = []
most_restrictive past (b ∷ l) = choose (all (of_kind (first_kind (b ∷ l))) (b ∷ l)) (find_most_restrictive_predicate past b l ∷ []) (b ∷ l)

-- ---- simplify_column_predicates

-- one column's equalities, lower bounds and upper bounds, each in order
pub record Group : Type 0 where
  pub key : Name
  pub eqs : List Side
  pub ups : List Side
  pub downs : List Side

-- its equality with a column, as an expression
abbrev pub eq_expr : Name → Side → Expr
eq_expr x d = bound_of d.flipped same_as x d.lit

-- its lower bound
abbrev pub up_expr : Name → Side → Expr
up_expr x d = bound_of d.flipped (above d.strict) x d.lit

-- its upper bound
abbrev pub down_expr : Name → Side → Expr
down_expr x d = bound_of d.flipped (below d.strict) x d.lit

-- the last of a list
abbrev pub final : Side → List Side → Side
final d [] = d
final d (e ∷ l) = final e l

-- D1: the last where the literals agree, else FALSE
abbrev pub eq_part : Name → List Side → List Expr
eq_part x [] = []
eq_part x (d ∷ l) = choose (all (λ e. same_v (val d) (val e)) l) (eq_expr x (final d l) ∷ []) (bool false ∷ [])

-- for upper bounds the lesser is the stronger
abbrev pub gt_z : ℤ → ℤ → Bool
gt_z a b = lt_z b a

-- within a column: equality, lower bound, upper bound
abbrev pub simplify_column_predicates : Group → List Expr
simplify_column_predicates g =
    eq_part g.key g.eqs
    ++ (map (up_expr g.key) (most_restrictive lt_z g.ups)
    ++ map (down_expr g.key) (most_restrictive gt_z g.downs))

-- ---- which predicates are comparisons of a column with a literal

-- such a comparison, taken apart
pub record Item : Type 0 where
  pub key : Name
  pub rel : Rel
  pub lit : ValueRecord
  pub flipped : Bool

-- put together again
abbrev pub item_expr : Item → Expr
item_expr i = bound_of i.flipped i.rel i.key i.lit

-- what an operator says of the column; NotEq is no bound
unfoldable pub rel_of : Bool → Cmp → Option Rel
rel_of f eq = some same_as
rel_of f ne = none
rel_of false lt = some (below true)
rel_of false le = some (below false)
rel_of false gt = some (above true)
rel_of false ge = some (above false)
rel_of true lt = some (above true)
rel_of true le = some (above false)
rel_of true gt = some (below true)
rel_of true ge = some (below false)

-- the literal that an expression is
unfoldable pub as_literal : Expr → Option ValueRecord
as_literal e = literal? (literal_in e)

-- extract_column_from_expr, try_as_col
unfoldable pub as_column : Expr → Option Name
as_column (col x) = some x
as_column (num z) = none
as_column (bool b) = none
as_column (nul t) = none
as_column (bin o a b) = none
as_column (neg a) = none
as_column (test t a) = none
as_column (between n a l u) = none
as_column (inlist n a xs) = none
as_column (fn p q r xs) = none

-- all three parts, or nothing
unfoldable pub make : Bool → Option Rel → Option Name → Option ValueRecord → Option Item
make f none x l = none
make f (some r) none l = none
make f (some r) (some x) none = none
make f (some r) (some x) (some l) = some (record { key = x; rel = r; lit = l; flipped = f })

-- the first that there is
unfoldable pub or_item : Option Item → Option Item → Option Item
or_item none o = o
or_item (some i) o = some i

-- the column on the left, or else on the right
unfoldable pub view : Expr → Option Item
unfolding make or_item rel_of as_literal as_column
view (bin (cmp o) a b) =
    or_item (make false (rel_of false o) (as_column a) (as_literal b)) (make true (rel_of true o) (as_column b) (as_literal a))
view (bin and a b) = none
view (bin or a b) = none
view (col x) = none
view (num z) = none
view (bool b) = none
view (nul t) = none
view (neg a) = none
view (test t a) = none
view (between n a l u) = none
view (inlist n a xs) = none
view (fn p q r xs) = none

-- ---- simplify_predicates: the others first, in order; then the groups, columns ascending

-- columns ascending by qualifier, then name
abbrev pub name_under : Name → Name → Bool
name_under (nm q n) (nm r m) = ltb q r || (eqb q r & ltb n m)

-- a comparison in front of its column's others
abbrev pub place : Rel → ValueRecord → Bool → Group → Group
place same_as l f g =
    record { key = g.key; eqs = record { strict = false; lit = l; flipped = f } ∷ g.eqs; ups = g.ups; downs = g.downs }
place (above s) l f g = record { key = g.key; eqs = g.eqs; ups = record { strict = s; lit = l; flipped = f } ∷ g.ups; downs = g.downs }
place (below s) l f g = record { key = g.key; eqs = g.eqs; ups = g.ups; downs = record { strict = s; lit = l; flipped = f } ∷ g.downs }

-- .. into its column's group
abbrev pub put_in : Item → Group → Group
put_in i g = place i.rel i.lit i.flipped g

-- a group of one
abbrev pub fresh : Item → Group
fresh i = put_in i (record { key = i.key; eqs = []; ups = []; downs = [] })

-- into the group of its column, or into a new one in its place
unfoldable pub enter : Item → List Group → List Group
enter i [] = fresh i ∷ []
enter i (g ∷ gs) =
    choose (same g.key i.key) (put_in i g ∷ gs)
    (choose (name_under i.key g.key) (fresh i ∷ g ∷ gs) (g ∷ enter i gs))

-- the others, and the groups
pub record Sorted : Type 0 where
  pub others : List Expr
  pub groups : List Group

-- one more predicate in front
abbrev pub add : Expr → Option Item → Sorted → Sorted
add e none s = record { others = e ∷ s.others; groups = s.groups }
add e (some i) s = record { others = s.others; groups = enter i s.groups }

-- all predicates, each to its place
unfoldable pub sort_out : List Expr → Sorted
sort_out [] = record { others = []; groups = [] }
sort_out (e ∷ es) = add e (view e) (sort_out es)

-- simplify_predicates: all others come first, in order; then columns ascending
unfoldable pub simplify_predicates : List Expr → List Expr
unfolding bound_of
simplify_predicates es = let s = sort_out es in s.others ++ flatten simplify_column_predicates s.groups
