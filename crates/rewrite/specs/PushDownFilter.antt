-- src/push_down_filter.rs, with D4 and D5: PushDownFilter::rewrite on plans, whose rules docs/REWRITE.md has with examples. Definitions
-- only; that it keeps the rows is proved in proofs/Rewrite.antt, that it keeps a plan well-formed in proofs/Granted.antt of the crate
-- preservation.
use Rattle.std.specs.Prelude.{ℕ, Bool, true, false, not, ◌||◌, cond, List, [], ◌∷◌, ◌++◌, map, length, eqb}
use Rattle.std.proofs.Math.Option.{Option, none, some}
use Rattle.plan.specs.Lists.{◌&◌, choose, keep, all, any, flatten}
use Rattle.plan.specs.Syntax.{Name, Expr, col, num, bool, nul, bin, and, or, cmp, neg, test, between, inlist, fn, Field, Entry, Pair}
use Rattle.plan.specs.Syntax.{AggEntry, WinEntry, Kind, inner, left, right, full, left_semi, right_semi, left_anti, right_anti, Plan, scan}
use Rattle.plan.specs.Syntax.{filter, project, join, alias, union, distinct, sort, repartition, limit, aggregate, window, Plans, pnil}
use Rattle.plan.specs.Syntax.{pcons}
use Rattle.plan.specs.Schema.{same, schema, schema_first, requalify, has}
use Rattle.plan.specs.Columns.{on_cols}
use Rattle.rewrite.specs.Utils.{has_all_column_refs, no_columns, is_volatile_expr, is_leafward_expr, replace_cols, split_conjunction}
use Rattle.rewrite.specs.Utils.{split_conjunction?, conjunction, with_filters, unique, is_empty}
use Rattle.rewrite.specs.SimplifyPredicates.{as_column, simplify_predicates}
use Rattle.rewrite.specs.ReorderPredicates.{reorder_predicates}

-- Transformed<LogicalPlan>
pub record Transformed : Type 0 where
  pub plan : Plan
  pub transformed : Bool

-- Transformed::yes: the flag is raised
abbrev pub transformed_yes : Plan → Transformed
transformed_yes p = record { plan = p; transformed = true }

-- Transformed::no
abbrev pub transformed_no : Plan → Transformed
transformed_no p = record { plan = p; transformed = false }

-- ---- lr_is_preserved, on_lr_is_preserved

-- lr_is_preserved: a predicate above the join may move to its left input
abbrev pub left_preserved : Kind → Bool
left_preserved inner = true
left_preserved left = true
left_preserved right = false
left_preserved full = false
left_preserved left_semi = true
left_preserved right_semi = false
left_preserved left_anti = true
left_preserved right_anti = false

-- .. to its right input
abbrev pub right_preserved : Kind → Bool
right_preserved inner = true
right_preserved left = false
right_preserved right = true
right_preserved full = false
right_preserved left_semi = false
right_preserved right_semi = true
right_preserved left_anti = false
right_preserved right_anti = true

-- on_lr_is_preserved: a predicate of the join's own filter may move to its left input
abbrev pub on_left_preserved : Kind → Bool
on_left_preserved inner = true
on_left_preserved left = false
on_left_preserved right = true
on_left_preserved full = false
on_left_preserved left_semi = true
on_left_preserved right_semi = true
on_left_preserved left_anti = false
on_left_preserved right_anti = true

-- .. to its right input
abbrev pub on_right_preserved : Kind → Bool
on_right_preserved inner = true
on_right_preserved left = true
on_right_preserved right = false
on_right_preserved full = false
on_right_preserved left_semi = true
on_right_preserved right_semi = true
on_right_preserved left_anti = true
on_right_preserved right_anti = false

-- JoinType::Inner, of which alone predicates are inferred (D5) and into which they go as conditions
abbrev pub is_inner : Kind → Bool
is_inner inner = true
is_inner left = false
is_inner right = false
is_inner full = false
is_inner left_semi = false
is_inner right_semi = false
is_inner left_anti = false
is_inner right_anti = false

-- ---- extract_or_clause, extract_or_clauses_for_join

-- an OR: a clause only if both operands yield one
unfoldable pub both_or : Option Expr → Option Expr → Option Expr
both_or none o = none
both_or (some a) none = none
both_or (some a) (some b) = some (bin or a b)

-- an AND keeps each operand that yields
unfoldable pub either_and_option : Option Expr → Option Expr → Option Expr
either_and_option none o = o
either_and_option (some a) none = some a
either_and_option (some a) (some b) = some (bin and a b)

-- any other expression, if it reads that side alone
unfoldable pub guarded : Bool → Expr → Option Expr
guarded true e = some e
guarded false e = none

-- a clause that reads only columns of the side (`c`), or nothing
unfoldable pub extract_or_clause : (Name → Bool) → Expr → Option Expr
unfolding both_or either_and_option guarded
extract_or_clause c (bin and a b) = either_and_option (extract_or_clause c a) (extract_or_clause c b)
extract_or_clause c (bin or a b) = both_or (extract_or_clause c a) (extract_or_clause c b)
extract_or_clause c (bin (cmp o) a b) = guarded (on_cols c (bin (cmp o) a b)) (bin (cmp o) a b)
extract_or_clause c (col x) = guarded (on_cols c (col x)) (col x)
extract_or_clause c (num z) = guarded (on_cols c (num z)) (num z)
extract_or_clause c (bool b) = guarded (on_cols c (bool b)) (bool b)
extract_or_clause c (nul t) = guarded (on_cols c (nul t)) (nul t)
extract_or_clause c (neg a) = guarded (on_cols c (neg a)) (neg a)
extract_or_clause c (test t a) = guarded (on_cols c (test t a)) (test t a)
extract_or_clause c (between n a l u) = guarded (on_cols c (between n a l u)) (between n a l u)
extract_or_clause c (inlist n a xs) = guarded (on_cols c (inlist n a xs)) (inlist n a xs)
extract_or_clause c (fn p q r xs) = guarded (on_cols c (fn p q r xs)) (fn p q r xs)

-- a conjunct that is an OR at its top
unfoldable pub is_or : Expr → Bool
is_or (bin and a b) = false
is_or (bin or a b) = true
is_or (bin (cmp o) a b) = false
is_or (col x) = false
is_or (num z) = false
is_or (bool b) = false
is_or (nul t) = false
is_or (neg a) = false
is_or (test t a) = false
is_or (between n a l u) = false
is_or (inlist n a xs) = false
is_or (fn p q r xs) = false

-- a clause or nothing, as a list
unfoldable pub listed : Option Expr → List Expr
listed none = []
listed (some e) = e ∷ []

-- the clauses of those that are an OR at their top
unfoldable pub extract_or_clauses_for_join : (Name → Bool) → List Expr → List Expr
unfolding is_or listed
extract_or_clauses_for_join c es = flatten (λ e. listed (extract_or_clause c e)) (keep is_or es)

-- ---- infer_join_predicates (D5: of Inner joins only, so no predicate is tested for NULLs)

-- the partner of a column in the first pair of columns that holds it, the left key tested first
unfoldable pub pair_of : Name → Option Name → Option Name → Option Name → Option Name
pair_of x none r rest = rest
pair_of x (some y) none rest = rest
pair_of x (some y) (some z) rest = cond (same y x) (some z) (cond (same z x) (some y) rest)

-- in the first pair of the join's keys that holds the column
unfoldable pub partner : List Pair → Name → Option Name
unfolding as_column pair_of
partner [] x = none
partner (k ∷ on) x = pair_of x (as_column k.lhs) (as_column k.rhs) (partner on x)

-- the partner where there is one, else the column itself
unfoldable pub to_partner : Name → Option Name → Expr
to_partner x none = col x
to_partner x (some y) = col y

-- a column, or its partner by the join's keys
unfoldable pub swap_keys : List Pair → Name → Expr
unfolding to_partner
swap_keys on x = to_partner x (partner on x)

-- the column has no partner
unfoldable pub no_partner : Option Name → Bool
no_partner none = true
no_partner (some x) = false

-- those that read a key column, with each key column replaced by its partner
unfoldable pub infer_join_predicates : List Pair → List Expr → List Expr
unfolding no_partner
infer_join_predicates on es = map (replace_cols (swap_keys on)) (keep (λ e. not (on_cols (λ x. no_partner (partner on x)) e)) es)

-- ---- push_down_all_join, push_down_join

-- those of a list that move to a side, if it is open (`p`)
unfoldable pub push_to : Bool → List Name → List Expr → List Expr
push_to p s es = keep (λ e. cond p (has_all_column_refs s e) false) es

-- those that do not
unfoldable pub push_not : Bool → List Name → List Expr → List Expr
push_not p s es = keep (λ e. not (cond p (has_all_column_refs s e) false)) es

-- those that move to neither
abbrev pub rest : Bool → Bool → List Name → List Name → List Expr → List Expr
rest p q s t es = push_not q t (push_not p s es)

-- a list, or none of it
abbrev pub if_list : Bool → List Expr → List Expr
if_list true es = es
if_list false es = []

-- `P` is the predicates above, `G` those of the join's filter, `s` and `t` the inputs' schemas. `can_evaluate_as_join_condition` holds of
-- every expression that an image can have.
module _ (k : Kind) (s t : List Name) (on : List Pair) (P G : List Expr) where
  -- of the predicates above, those that move to no side
  abbrev pub unpushed : List Expr
  unpushed = rest (left_preserved k) (right_preserved k) s t P

  -- of the join's own filter, those that move to no side
  abbrev pub on_filter_join_conditions : List Expr
  on_filter_join_conditions = rest (on_left_preserved k) (on_right_preserved k) s t G

  -- what stays above the join: of an Inner join nothing
  abbrev pub keep_predicates : List Expr
  keep_predicates = if_list (not (is_inner k)) unpushed

  -- what becomes a condition of the join: of an Inner join only
  abbrev pub join_conditions : List Expr
  join_conditions = if_list (is_inner k) unpushed

  -- inferred from the predicates above, then from the join's own filter
  abbrev pub inferred_join_predicates : List Expr
  inferred_join_predicates = if_list (is_inner k) (infer_join_predicates on (P ++ G))

  -- in the source's order: the predicates, the inferred ones, those of the filter, the clauses out of what moved to no side
  abbrev pub left_push : List Expr
  left_push =
      push_to (left_preserved k) s P
      ++ (push_to true s inferred_join_predicates
      ++ (push_to (on_left_preserved k) s G
      ++ extract_or_clauses_for_join (has s)
      (if_list (left_preserved k) (keep_predicates ++ join_conditions) ++ if_list (on_left_preserved k) on_filter_join_conditions)))

  -- likewise; what moved to the left does not move to the right as well
  abbrev pub right_push : List Expr
  right_push =
      push_to (right_preserved k) t (push_not (left_preserved k) s P)
      ++ (push_to true t (push_not true s inferred_join_predicates)
      ++ (push_to (on_right_preserved k) t (push_not (on_left_preserved k) s G)
      ++ extract_or_clauses_for_join (has t)
      (if_list (right_preserved k) (keep_predicates ++ join_conditions) ++ if_list (on_right_preserved k) on_filter_join_conditions)))

  -- nothing moves
  abbrev pub nothing_moves : Bool
  nothing_moves = is_empty join_conditions & (is_empty left_push & is_empty right_push)

-- the join over its new inputs; the kept predicates are joined again, left-deep, even where nothing moves
unfoldable pub push_down_all_join : Kind → Plan → Plan → List Pair → List Expr → List Expr → Transformed
push_down_all_join k l r on P G =
    let s = schema l in
    let t = schema r in
    record {
      plan =
          with_filters (keep_predicates k s t on P G)
          (join k (with_filters (left_push k s t on P G) l) (with_filters (right_push k s t on P G) r) on
          (conjunction (join_conditions k s t on P G ++ on_filter_join_conditions k s t on P G)));
      transformed = not (nothing_moves k s t on P G);
    }

-- push_down_join: the join's own filter split at its Ands
abbrev pub push_down_join : Kind → Plan → Plan → List Pair → Option Expr → List Expr → Transformed
push_down_join k l r on f P = push_down_all_join k l r on P (split_conjunction? f)

-- ---- rewrite_projection

-- the expression that a column of the Projection, or a group column, stands for
unfoldable pub pick : List Entry → Name → Expr
pick [] x = col x
pick (e ∷ es) x = cond (same e.name x) e.expr (pick es x)

-- the output names of entries
abbrev pub names : List Entry → List Name
names es = map (λ (e : Entry). e.name) es

-- the names of the entries that are volatile or leafward
abbrev pub non_pushable : List Entry → Name → Bool
non_pushable es x = any (λ (e : Entry). same e.name x & (is_volatile_expr e.expr || is_leafward_expr e.expr)) es

-- not `contain(expr, non_pushable_map)`
abbrev pub pushable : List Entry → Expr → Bool
pushable es e = on_cols (λ x. not (non_pushable es x)) e

-- the conjuncts that stay
abbrev pub stay : (Expr → Bool) → Expr → List Expr
stay push e = keep (λ x. not (push x)) (split_conjunction e)

-- and those that move
abbrev pub move : (Expr → Bool) → Expr → List Expr
move push e = keep push (split_conjunction e)

-- Filter over Projection: what reads no such entry goes below, over the entries' expressions; if nothing does, all stays as it is
unfoldable pub rewrite_projection : Expr → List Entry → Plan → Transformed
rewrite_projection e es p =
    choose (is_empty (move (pushable es) e))
    (transformed_no (filter e (project es p)))
    (transformed_yes (with_filters (stay (pushable es) e)
    (project es (with_filters (map (replace_cols (pick es)) (move (pushable es) e)) p))))

-- ---- the other arms of the match on the Filter's input

-- the column is a field of the scan that is marked
abbrev pub marked : List Field → Name → Bool
marked fs x = any (λ (f : Field). same f.name x & f.exact) fs

-- supports_filters_pushdown is Exact: a scan takes a predicate that is not volatile exactly if it has a column and all its columns are
-- marked
abbrev pub supports_pushdown : List Field → Expr → Bool
supports_pushdown fs e = not (no_columns e) & on_cols (marked fs) e

-- the conjuncts that a scan never takes
abbrev pub volatile_filters : Expr → List Expr
volatile_filters e = keep is_volatile_expr (split_conjunction e)

-- the others
abbrev pub non_volatile_filters : Expr → List Expr
non_volatile_filters e = keep (λ x. not (is_volatile_expr x)) (split_conjunction e)

-- of these the ones that the scan takes
abbrev pub supported_filters : List Field → Expr → List Expr
supported_filters fs e = keep (supports_pushdown fs) (non_volatile_filters e)

-- and the ones that it leaves
abbrev pub unsupported_filters : List Field → Expr → List Expr
unsupported_filters fs e = keep (λ x. not (supports_pushdown fs x)) (non_volatile_filters e)

-- Filter over TableScan: what it takes joins its filters, repeats dropped; the rest stays above, volatile ones last
unfoldable pub rewrite_scan : Expr → ℕ → List Field → List Expr → Transformed
rewrite_scan e t fs es =
    choose (is_empty (supported_filters fs e))
    (transformed_no (filter e (scan t fs es)))
    (transformed_yes (with_filters (unsupported_filters fs e ++ volatile_filters e) (scan t fs (unique (es ++ supported_filters fs e)))))

-- D4: without group entries nothing moves, a column-free predicate included
abbrev pub in_groups : List Entry → Expr → Bool
in_groups [] e = false
in_groups (g ∷ gs) e = has_all_column_refs (names (g ∷ gs)) e

-- Filter over Aggregate: what reads group columns alone goes below, over the group entries' expressions
unfoldable pub rewrite_aggregate : Expr → List Entry → List AggEntry → Plan → Transformed
rewrite_aggregate e gs ags p = record {
  plan = with_filters (stay (in_groups gs) e) (aggregate gs ags (with_filters (map (replace_cols (pick gs)) (move (in_groups gs) e)) p));
  transformed = not (is_empty (move (in_groups gs) e));
}

-- the columns are partition columns of every entry
abbrev pub in_partitions : List WinEntry → Expr → Bool
in_partitions ws e = all (λ (w : WinEntry). has_all_column_refs w.parts e) ws

-- Filter over Window: what reads partition columns of every entry goes below
unfoldable pub rewrite_window : Expr → List WinEntry → Plan → Transformed
rewrite_window e ws p = record {
  plan = with_filters (stay (in_partitions ws) e) (window ws (with_filters (move (in_partitions ws) e) p));
  transformed = not (is_empty (move (in_partitions ws) e));
}

-- the name that stands in the second schema where `x` stands in the first
unfoldable pub ren : List Name → List Name → Name → Name
ren [] t x = x
ren (y ∷ s) [] x = x
ren (y ∷ s) (z ∷ t) x = cond (same y x) z (ren s t x)

-- a predicate over the first schema, for the second
unfoldable pub renamed : List Name → List Name → Expr → Expr
renamed s t e = replace_cols (λ x. col (ren s t x)) e

-- each input of a Union with its own Filter
unfoldable pub filter_each : List Name → Expr → Plans → Plans
filter_each s e pnil = pnil
filter_each s e (pcons p ps) = pcons (filter (renamed s (schema p) e) p) (filter_each s e ps)

-- ---- rewrite

-- a Filter's predicate, simplified and reordered, if the count or the order asks for it; none if nothing is left
unfoldable pub simplify_filter : Expr → Option Expr
simplify_filter e =
    let new = reorder_predicates (simplify_predicates (split_conjunction e)) in
    choose (not (eqb (length (split_conjunction e)) (length new.predicates)) || new.changed) (conjunction new.predicates) (some e)

-- the conjuncts of a Filter over a Filter: the child's first, later equal ones dropped
unfoldable pub merged : Expr → Expr → List Expr
merged parent child = unique (split_conjunction child ++ split_conjunction parent)

-- the merged predicate, simplified as the Filter's own
abbrev pub simplify_merged : Option Expr → Option Expr
simplify_merged none = none
simplify_merged (some e) = simplify_filter e

-- what is done with the predicate that is left; the input alone where none is
abbrev pub resume : Option Expr → (Expr → Transformed) → Plan → Transformed
resume none f p = transformed_yes p
resume (some e) f p = f e

-- what a Filter with this predicate, which is simplified already, over this plan becomes
unfoldable pub rewrite_filter : Expr → Plan → Transformed
rewrite_filter e (scan t fs es) = rewrite_scan e t fs es
rewrite_filter e (filter b p) = resume (simplify_merged (conjunction (merged e b))) (λ x. rewrite_filter x p) p
rewrite_filter e (project es p) = rewrite_projection e es p
rewrite_filter e (join k l r on f) = push_down_join k l r on f (split_conjunction e)
rewrite_filter e (alias q p) = transformed_yes (alias q (filter (renamed (map (requalify q) (schema p)) (schema p) e) p))
rewrite_filter e (union ps) = transformed_yes (union (filter_each (schema_first ps) e ps))
rewrite_filter e (distinct p) = transformed_yes (distinct (filter e p))
rewrite_filter e (sort none ks p) = transformed_yes (sort none ks (filter e p))
rewrite_filter e (sort (some n) ks p) = transformed_no (filter e (sort (some n) ks p))
rewrite_filter e (repartition p) = transformed_yes (repartition (filter e p))
rewrite_filter e (limit n k p) = transformed_no (filter e (limit n k p))
rewrite_filter e (aggregate gs ags p) = rewrite_aggregate e gs ags p
rewrite_filter e (window ws p) = rewrite_window e ws p

-- PushDownFilter::rewrite of one node: a Filter by its input, a Join by its own filter, no other
unfoldable pub rewrite : Plan → Transformed
rewrite (scan t fs es) = transformed_no (scan t fs es)
rewrite (filter e p) = resume (simplify_filter e) (λ x. rewrite_filter x p) p
rewrite (project es p) = transformed_no (project es p)
rewrite (join k l r on f) = push_down_join k l r on f []
rewrite (alias q p) = transformed_no (alias q p)
rewrite (union ps) = transformed_no (union ps)
rewrite (distinct p) = transformed_no (distinct p)
rewrite (sort f ks p) = transformed_no (sort f ks p)
rewrite (repartition p) = transformed_no (repartition p)
rewrite (limit n k p) = transformed_no (limit n k p)
rewrite (aggregate gs ags p) = transformed_no (aggregate gs ags p)
rewrite (window ws p) = transformed_no (window ws p)

-- ---- the plan as it stands after each merge of Filters, for test 11

-- nothing where no predicate is left
abbrev pub if_some : Option Expr → (Expr → List Plan) → List Plan
if_some none f = []
if_some (some e) f = f e

-- .. of a Filter with this predicate, which is simplified already, over this plan
unfoldable pub merges_under : Expr → Plan → List Plan
merges_under e (filter b p) = if_some (conjunction (merged e b)) (λ m. filter m p ∷ if_some (simplify_filter m) (λ x. merges_under x p))
merges_under e (scan t fs es) = []
merges_under e (project es p) = []
merges_under e (join k l r on f) = []
merges_under e (alias q p) = []
merges_under e (union ps) = []
merges_under e (distinct p) = []
merges_under e (sort f ks p) = []
merges_under e (repartition p) = []
merges_under e (limit n k p) = []
merges_under e (aggregate gs ags p) = []
merges_under e (window ws p) = []

-- the plan after a merge of Filters: the merged Filter in the place of both, not yet rewritten
unfoldable pub merges : Plan → List Plan
merges (filter e p) = if_some (simplify_filter e) (λ x. merges_under x p)
merges (scan t fs es) = []
merges (project es p) = []
merges (join k l r on f) = []
merges (alias q p) = []
merges (union ps) = []
merges (distinct p) = []
merges (sort f ks p) = []
merges (repartition p) = []
merges (limit n k p) = []
merges (aggregate gs ags p) = []
merges (window ws p) = []
