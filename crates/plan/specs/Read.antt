-- A tree of records as a plan: what each record stands for.
use Rattle.std.specs.Prelude.{ℕ, zero, suc, ◌+◌, ◌*◌, ◌-◌, Bool, cond, List, [], ◌∷◌, ltb, ℤ, pos, negsuc, None, Some}
use Rattle.std.proofs.Math.Option as O
use Rattle.std.proofs.Math.Option.{Option, some}
use Rattle.image.specs.Tree.{Label, Forest, none, node, Tree}
use Rattle.plan.specs.Kinds as K
use Rattle.plan.specs.Kinds.{What, expr, plan, part, unknown, what, is_kind, ExprKind, PlanKind}
use Rattle.plan.specs.Form.{past, bad_form}
use Rattle.image.specs.Lowest.{Found, alone}
use Rattle.plan.specs.Syntax.{Name, nm, eq, ne, lt, le, gt, ge, Op, and, or, cmp, Test, is_null, is_not_null, is_true, is_false, is_unknown}
use Rattle.plan.specs.Syntax.{is_not_true, is_not_false, is_not_unknown, Expr, col, num, bool, nul, bin, neg, test, between, inlist, fn}
use Rattle.plan.specs.Syntax.{Exprs, enil, econs, Field, Entry, Pair, Key, Agg, count, min, max, AggEntry, WinEntry, Kind, inner}
use Rattle.plan.specs.Syntax.{left, right, full, left_semi, right_semi, left_anti, right_anti, Plan, scan, filter, project, join, alias}
use Rattle.plan.specs.Syntax.{union, distinct, sort, repartition, limit, aggregate, window, Plans, pnil, pcons}
use Rattle.plan.specs.Trees.{is_set, has_fetch}

-- ---- numbers

-- a signed 64-bit number, of its halves
unfoldable pub signed : ℕ → ℕ → ℤ
signed lo hi = cond (ltb hi 2147483648) (pos (hi * 4294967296 + lo)) (negsuc ((4294967295 - hi) * 4294967296 + (4294967295 - lo)))

-- what a word that counts from 1 stands for
unfoldable pub nth : {A : Type 0} → A → List A → ℕ → A
nth d [] i = d
nth d (x ∷ xs) zero = x
nth d (x ∷ xs) (suc i) = nth d xs i

abbrev pub ops : List Op
ops = and ∷ or ∷ cmp eq ∷ cmp ne ∷ cmp lt ∷ cmp le ∷ cmp gt ∷ cmp ge ∷ []

abbrev pub tests : List Test
tests = is_null ∷ is_not_null ∷ is_true ∷ is_false ∷ is_unknown ∷ is_not_true ∷ is_not_false ∷ is_not_unknown ∷ []

abbrev pub joins : List Kind
joins = inner ∷ left ∷ right ∷ full ∷ left_semi ∷ right_semi ∷ left_anti ∷ right_anti ∷ []

abbrev pub aggs : List Agg
aggs = count ∷ min ∷ max ∷ []

-- ---- back: total functions; where the form is wrong they answer something, and the form test refuses it

abbrev pub head_e : Exprs → Expr
head_e enil = nul 0
head_e (econs x xs) = x

abbrev pub tail_e : Exprs → Exprs
tail_e enil = enil
tail_e (econs x xs) = xs

abbrev pub list_e : Exprs → List Expr
list_e enil = []
list_e (econs x xs) = x ∷ list_e xs

abbrev pub perhaps_e : Exprs → Option Expr
perhaps_e enil = O.none
perhaps_e (econs x xs) = some x

-- of a record's label and the expressions made of its children
abbrev pub expr_of : ExprKind → Label → Exprs → Expr
expr_of K.Column l es = col (nm l.p l.q)
expr_of K.Integer l es = num (signed l.lo l.hi)
expr_of K.Boolean l es = bool (is_set l.p)
expr_of K.Null l es = nul l.p
expr_of K.Binary l es = bin (nth and ops (l.p - 1)) (head_e es) (head_e (tail_e es))
expr_of K.Not l es = neg (head_e es)
expr_of K.Test l es = test (nth is_null tests (l.p - 1)) (head_e es)
expr_of K.Between l es = between (is_set l.p) (head_e es) (head_e (tail_e es)) (head_e (tail_e (tail_e es)))
expr_of K.InList l es = inlist (is_set l.p) (head_e es) (tail_e es)
expr_of K.Function l es = fn l.p l.q l.r es

abbrev pub expr_by : What → Label → Exprs → Expr
expr_by (expr k) l es = expr_of k l es
expr_by (plan k) l es = nul 0
expr_by (part k) l es = nul 0
expr_by unknown l es = nul 0

unfoldable pub exprs_of : Forest → Exprs
exprs_of none = enil
exprs_of (node l cs ns) = econs (expr_by (what l) l (exprs_of cs)) (exprs_of ns)

abbrev pub field_of : Label → Forest → Field
field_of l cs = record { name = nm l.p l.q; ty = l.r; exact = is_set l.lo }

abbrev pub entry_of : Label → Forest → Entry
entry_of l cs = record { name = nm l.p l.q; expr = head_e (exprs_of cs) }

abbrev pub pair_of : Label → Forest → Pair
pair_of l cs = record { lhs = head_e (exprs_of cs); rhs = head_e (tail_e (exprs_of cs)) }

abbrev pub key_of : Label → Forest → Key
key_of l cs = record { desc = is_set l.p; expr = head_e (exprs_of cs) }

abbrev pub agg_of : Label → Forest → AggEntry
agg_of l cs = record { name = nm l.p l.q; fun = nth count aggs (l.r - 1); expr = head_e (exprs_of cs) }

-- the names of columns
abbrev pub column_of : Label → Forest → Name
column_of l cs = nm l.p l.q

-- what the records in front of a forest that are of a sort stand for
unfoldable pub run : {A : Type 0} → (Label → Bool) → (Label → Forest → A) → Forest → List A
run is make none = []
run is make (node l cs ns) = cond (is l) (make l cs ∷ run is make ns) []

abbrev pub rest : Forest → Forest
rest none = none
rest (node l cs ns) = ns

abbrev pub win_of : Label → Forest → WinEntry
win_of l cs = record {
  name = nm l.p l.q;
  fun = nth count aggs (l.r - 1);
  expr = head_e (exprs_of cs);
  parts = run
      (is_kind (expr K.Column)) column_of (rest cs);
}

abbrev pub head_p : Plans → Plan
head_p pnil = scan 0 [] []
head_p (pcons p ps) = p

abbrev pub tail_p : Plans → Plans
tail_p pnil = pnil
tail_p (pcons p ps) = ps

abbrev pub is_field : Label → Bool
is_field = is_kind (part K.FieldPart)

abbrev pub is_entry : Label → Bool
is_entry = is_kind (part K.EntryPart)

abbrev pub is_pair : Label → Bool
is_pair = is_kind (part K.PairPart)

abbrev pub is_key : Label → Bool
is_key = is_kind (part K.KeyPart)

abbrev pub is_agg : Label → Bool
is_agg = is_kind (part K.AggPart)

abbrev pub is_win : Label → Bool
is_win = is_kind (part K.WinPart)

-- of a record's label, its children, and the plans made of those among them that are plans
abbrev pub plan_from : PlanKind → Label → Forest → Plans → Plan
plan_from K.TableScan l cs ps = scan l.p (run is_field field_of cs) (list_e (exprs_of (past is_field cs)))
plan_from K.Filter l cs ps = filter (head_e (exprs_of cs)) (head_p ps)
plan_from K.Projection l cs ps = project (run is_entry entry_of cs) (head_p ps)
plan_from K.Join l cs ps = join (nth inner joins (l.p - 1)) (head_p ps) (head_p (tail_p ps)) (run is_pair pair_of (rest (rest cs)))
    (perhaps_e (exprs_of (past is_pair (rest (rest cs)))))
plan_from K.SubqueryAlias l cs ps = alias l.p (head_p ps)
plan_from K.Union l cs ps = union ps
plan_from K.Distinct l cs ps = distinct (head_p ps)
plan_from K.Sort l cs ps = sort (cond (has_fetch l.p) (some l.lo) O.none) (run is_key key_of cs) (head_p ps)
plan_from K.Repartition l cs ps = repartition (head_p ps)
plan_from K.Limit l cs ps = limit l.lo l.hi (head_p ps)
plan_from K.Aggregate l cs ps = aggregate (run is_entry entry_of cs) (run is_agg agg_of (past is_entry cs)) (head_p ps)
plan_from K.Window l cs ps = window (run is_win win_of cs) (head_p ps)

abbrev pub plans_by : What → Label → Forest → Plans → Plans → Plans
plans_by (expr k) l cs ps qs = qs
plans_by (plan k) l cs ps qs = pcons (plan_from k l cs ps) qs
plans_by (part k) l cs ps qs = qs
plans_by unknown l cs ps qs = qs

-- the plans of a forest
unfoldable pub plans_of : Forest → Plans
plans_of none = pnil
plans_of (node l cs ns) = plans_by (what l) l cs (plans_of cs) (plans_of ns)

unfoldable pub plan_at : Tree → Plan
plan_at t = head_p (plans_of (alone t))

abbrev pub unless_found : Found → Plan → Option Plan
unless_found None p = some p
unless_found (Some r) p = O.none

-- the plan that a tree of records is, if the form test finds nothing
unfoldable pub plan_of : Tree → Option Plan
plan_of t = unless_found (bad_form t) (plan_at t)
