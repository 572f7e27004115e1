-- A plan's tree is read back as the plan.
-- Assumes nothing.
use Prim.Native.Nat.{ℕ, ◌+◌, ◌*◌, ◌-◌, ◌/◌, ◌%◌, ◌<◌}
use native.Mathlib.Omega.{arith}
use mathlib.Core.Path.{◌≡◌, refl, ap}
use mathlib.Core.Bool.{Bool, true, false, cond}
use mathlib.Core.List.{List, [], ◌∷◌}
use mathlib.Core.Option as O
use mathlib.Core.Option.{Option, some}
use lib.Dec.{eqb, leb}
use lib.IntN.{ℤ, pos, negsuc}
use borrow.Author.Tests.{lt-ltb, le-ltb, ne_eqb, leb-true}
use Rattle.image.specs.Tree.{Label, Forest, none, node}
use Rattle.plan.specs.Kinds as K
use Rattle.plan.specs.Kinds.{expr, part, what, what_of, among, is_kind}
use Rattle.plan.specs.Form.{past, bad_form}
use Rattle.std.specs.Prelude.{None}
use Rattle.plan.specs.Syntax.{Name, nm, eq, ne, lt, le, gt, ge, Op, and, or, cmp, Test, is_null, is_not_null, is_true, is_false, is_unknown}
use Rattle.plan.specs.Syntax.{is_not_true, is_not_false, is_not_unknown, Expr, col, num, bool, nul, bin, neg, test, between, inlist, fn}
use Rattle.plan.specs.Syntax.{Exprs, enil, econs, Field, Entry, Pair, Key, Agg, count, min, max, AggEntry, WinEntry, Kind, inner}
use Rattle.plan.specs.Syntax.{left, right, full, left_semi, right_semi, left_anti, right_anti, Plan, scan, filter, project, join, alias}
use Rattle.plan.specs.Syntax.{union, distinct, sort, repartition, limit, aggregate, window, Plans, pnil, pcons}
use Rattle.plan.specs.Integers.{FitsE, FitsEs, Every, Fits?, FitsP, FitsPs, FitsZ}
use Rattle.plan.specs.Trees.{low_half, high_half, bit_of, qualifier, ident, op_number, test_number, join_number, agg_number, column_label}
use Rattle.plan.specs.Trees.{label_e, kids_e, forest_e, in_front, each, nothing_below, field_label, entry_label, entry_kids, pair_label}
use Rattle.plan.specs.Trees.{pair_kids, key_label, key_kids, agg_label, agg_kids, win_label, win_kids, fetch_bit, fetch_of, filter_kids, label_p}
use Rattle.plan.specs.Trees.{kids_p, forest_p, plan_tree}
use Rattle.plan.specs.Read.{signed, nth, ops, tests, joins, aggs, head_e, list_e, perhaps_e, expr_by, exprs_of, field_of, entry_of, pair_of}
use Rattle.plan.specs.Read.{key_of, agg_of, column_of, run, win_of, head_p, is_field, is_entry, is_pair, is_key, is_agg, is_win, plans_of, plan_at}
use Rattle.plan.specs.Read.{plan_of}

-- ---- numbers

pub signed_back : (z : ℤ) → FitsZ z → signed (low_half z) (high_half z) ≡ z
unfolding signed low_half high_half
signed_back (pos n) h =
    let e : n / 4294967296 * 4294967296 + n % 4294967296 ≡ n = omega arith in
    rw (lt-ltb (n / 4294967296) 2147483648 (omega arith), e)
signed_back (negsuc n) h =
    let e : (4294967295 - (4294967295 - n / 4294967296)) * 4294967296 + (4294967295 - (4294967295 - n % 4294967296)) ≡ n = omega arith in
    rw (le-ltb (4294967295 - n / 4294967296) 2147483648 (omega arith), e)

bit_back : (b : Bool) → eqb (bit_of b) 1 ≡ b
bit_back false = refl
bit_back true = refl

pub name_back : (x : Name) → nm (qualifier x) (ident x) ≡ x
name_back (nm q n) = refl

pub op_back : (o : Op) → nth and ops (op_number o - 1) ≡ o
unfolding nth
op_back and = refl
op_back or = refl
op_back (cmp eq) = refl
op_back (cmp ne) = refl
op_back (cmp lt) = refl
op_back (cmp le) = refl
op_back (cmp gt) = refl
op_back (cmp ge) = refl

test_back : (t : Test) → nth is_null tests (test_number t - 1) ≡ t
unfolding nth
test_back is_null = refl
test_back is_not_null = refl
test_back is_true = refl
test_back is_false = refl
test_back is_unknown = refl
test_back is_not_true = refl
test_back is_not_false = refl
test_back is_not_unknown = refl

join_back : (k : Kind) → nth inner joins (join_number k - 1) ≡ k
unfolding nth
join_back inner = refl
join_back left = refl
join_back right = refl
join_back full = refl
join_back left_semi = refl
join_back right_semi = refl
join_back left_anti = refl
join_back right_anti = refl

agg_back : (a : Agg) → nth count aggs (agg_number a - 1) ≡ a
unfolding nth
agg_back count = refl
agg_back min = refl
agg_back max = refl

-- ---- expressions

mutual
  unfolding label_e kids_e forest_e exprs_of what_of among

  pub expr_back : (e : Expr) → FitsE e → expr_by (what (label_e e)) (label_e e) (exprs_of (kids_e e)) ≡ e
  expr_back (col x) h = ap col (name_back x)
  expr_back (num z) h = ap num (signed_back z h)
  expr_back (bool b) h = ap bool (bit_back b)
  expr_back (nul t) h = refl
  expr_back (bin o a b) h = rw (op_back o, expr_back a h.0, expr_back b h.1)
  expr_back (neg a) h = rw (expr_back a h)
  expr_back (test t a) h = rw (test_back t, expr_back a h)
  expr_back (between n a l h') h = rw (bit_back n, expr_back a h.0, expr_back l h.1, expr_back h' h.2)
  expr_back (inlist n a xs) h = rw (bit_back n, expr_back a h.0, exprs_back xs h.1)
  expr_back (fn p q r xs) h = rw (exprs_back xs h)

  pub exprs_back : (xs : Exprs) → FitsEs xs → exprs_of (forest_e xs) ≡ xs
  exprs_back enil h = refl
  exprs_back (econs x xs) h = rw (expr_back x h.0, exprs_back xs h.1)

-- ---- runs of parts

-- the forest does not begin with one of the sort
abbrev pub Stops : (Label → Bool) → Forest → Type 0
Stops is none = Unit {0}
Stops is (node l cs ns) = is l ≡ false

module _ {A : Type 0} (is : Label → Bool) (make : Label → Forest → A) where
  pub run_stops : (f : Forest) → Stops is f → run is make f ≡ []
  unfolding run
  run_stops none h = refl
  run_stops (node l cs ns) h = rw h

pub past_stops : (is : Label → Bool) (f : Forest) → Stops is f → past is f ≡ f
unfolding past
past_stops is none h = refl
past_stops is (node l cs ns) h = rw h

module _ {A : Type 0} (is : Label → Bool) (make : Label → Forest → A) (l : A → Label) (k : A → Forest) (P : A → Type 0)
    (hit : (x : A) → is (l x) ≡ true) (back : (x : A) → P x → make (l x) (k x) ≡ x) where
  pub run_each : (xs : List A) (ns : Forest) → Every P xs → Stops is ns → run is make (each l k xs ns) ≡ xs
  unfolding run each
  run_each [] ns h s = run_stops is make ns s
  run_each (x ∷ xs) ns h s = rw (hit x, back x h.0, run_each xs ns h.1 s)

module _ {A : Type 0} (is : Label → Bool) (l : A → Label) (k : A → Forest) (hit : (x : A) → is (l x) ≡ true) where
  pub past_each : (xs : List A) (ns : Forest) → Stops is ns → past is (each l k xs ns) ≡ ns
  unfolding past each
  past_each [] ns s = past_stops is ns s
  past_each (x ∷ xs) ns s = rw (hit x, past_each xs ns s)

-- parts are no plans
module _ {A : Type 0} (l : A → Label) (k : A → Forest) (q : K.PartKind) (is : (x : A) → what (l x) ≡ part q) where
  pub plans_each : (xs : List A) (ns : Forest) → plans_of (each l k xs ns) ≡ plans_of ns
  unfolding plans_of each
  plans_each [] ns = refl
  plans_each (x ∷ xs) ns = rw (is x, plans_each xs ns)

-- ---- kinds of plans and expressions

last_plan : (p : Plan) → leb (label_p p).kind (K.number_p K.Window) ≡ true
unfolding label_p
last_plan (scan t fs es) = refl
last_plan (filter e p) = refl
last_plan (project es p) = refl
last_plan (join k l r on f) = refl
last_plan (alias q p) = refl
last_plan (union ps) = refl
last_plan (distinct p) = refl
last_plan (sort f ks p) = refl
last_plan (repartition p) = refl
last_plan (limit n k p) = refl
last_plan (aggregate gs ags p) = refl
last_plan (window ws p) = refl

pub no_part : (p : Plan) (n : ℕ) → K.number_p K.Window < n → eqb (label_p p).kind n ≡ false
no_part p n h = ne_eqb (label_p p).kind n (λ e. omega (arith, leb-true (label_p p).kind (K.number_p K.Window) (last_plan p)))

last_expression : (e : Expr) → leb (label_e e).kind (K.number_e K.Function) ≡ true
unfolding label_e
last_expression (col x) = refl
last_expression (num z) = refl
last_expression (bool b) = refl
last_expression (nul t) = refl
last_expression (bin o a b) = refl
last_expression (neg a) = refl
last_expression (test t a) = refl
last_expression (between n a l h) = refl
last_expression (inlist n a xs) = refl
last_expression (fn p q r xs) = refl

pub no_part_e : (e : Expr) (n : ℕ) → K.number_e K.Function < n → eqb (label_e e).kind n ≡ false
no_part_e e n h = ne_eqb (label_e e).kind n (λ q. omega (arith, leb-true (label_e e).kind (K.number_e K.Function) (last_expression e)))

pub expr_what : (e : Expr) → (k : K.ExprKind) × (what (label_e e) ≡ expr k)
unfolding label_e what_of among
expr_what (col x) = (K.Column, refl)
expr_what (num z) = (K.Integer, refl)
expr_what (bool b) = (K.Boolean, refl)
expr_what (nul t) = (K.Null, refl)
expr_what (bin o a b) = (K.Binary, refl)
expr_what (neg a) = (K.Not, refl)
expr_what (test t a) = (K.Test, refl)
expr_what (between n a l h) = (K.Between, refl)
expr_what (inlist n a xs) = (K.InList, refl)
expr_what (fn p q r xs) = (K.Function, refl)

-- ---- parts

first_back : (e : Expr) (ns : Forest) → FitsE e → head_e (exprs_of (in_front e ns)) ≡ e
unfolding exprs_of
first_back e ns h = expr_back e h

entry_back : (e : Entry) → FitsE e.expr → entry_of (entry_label e) (entry_kids e) ≡ e
entry_back e h = let n = name_back e.name in let x = first_back e.expr none h in λ i. record { name = n i; expr = x i }

field_back : (f : Field) → Unit {0} → field_of (field_label f) none ≡ f
field_back f h = let n = name_back f.name in let x = bit_back f.exact in λ i. record { name = n i; ty = f.ty; exact = x i }

pair_back : (k : Pair) → FitsE k.lhs × FitsE k.rhs → pair_of (pair_label k) (pair_kids k) ≡ k
unfolding exprs_of
pair_back k h = let a = expr_back k.lhs h.0 in let b = expr_back k.rhs h.1 in λ i. record { lhs = a i; rhs = b i }

key_back : (k : Key) → FitsE k.expr → key_of (key_label k) (key_kids k) ≡ k
key_back k h = let d = bit_back k.desc in let x = first_back k.expr none h in λ i. record { desc = d i; expr = x i }

aggentry_back : (a : AggEntry) → FitsE a.expr → agg_of (agg_label a) (agg_kids a) ≡ a
aggentry_back a h = let n = name_back a.name in let g = agg_back a.fun in let x = first_back
    a.expr none h in λ i. record { name = n i; fun = g i; expr = x i }

all_fit : {A : Type 0} (xs : List A) → Every (λ _. Unit {0}) xs
all_fit [] = tt
all_fit (x ∷ xs) = (tt, all_fit xs)

columns_back : (xs : List Name) → run (is_kind (expr K.Column)) column_of (each column_label nothing_below xs none) ≡ xs
columns_back xs = run_each (is_kind (expr K.Column)) column_of column_label nothing_below (λ _. Unit {0}) (λ x. refl) (λ x _. name_back x) xs none
    (all_fit xs) tt

win_back : (w : WinEntry) → FitsE w.expr → win_of (win_label w) (win_kids w) ≡ w
win_back w h =
    let n = name_back w.name in let g = agg_back w.fun in let x = first_back w.expr (each column_label nothing_below w.parts none) h in
    let c = columns_back w.parts in
    λ i. record { name = n i; fun = g i; expr = x i; parts = c i }

-- ---- plans

filters_back : (es : List Expr) → Every FitsE es → list_e (exprs_of (each label_e kids_e es none)) ≡ es
unfolding exprs_of each
filters_back [] h = refl
filters_back (e ∷ es) h = rw (expr_back e h.0, filters_back es h.1)

filters_stop : (es : List Expr) → Stops is_field (each label_e kids_e es none)
unfolding each
filters_stop [] = tt
filters_stop (e ∷ es) = no_part_e e (K.number_q K.FieldPart) (omega arith)

filters_plans : (es : List Expr) → plans_of (each label_e kids_e es none) ≡ pnil
unfolding plans_of each
filters_plans [] = refl
filters_plans (e ∷ es) = rw ((expr_what e).1, filters_plans es)

own_stops : (f : Option Expr) → Stops is_pair (filter_kids f)
own_stops O.none = tt
own_stops (some e) = no_part_e e (K.number_q K.PairPart) (omega arith)

own_back : (f : Option Expr) → Fits? f → perhaps_e (exprs_of (filter_kids f)) ≡ f
unfolding exprs_of
own_back O.none h = refl
own_back (some e) h = rw (expr_back e h)

fetch_back : (f : Option ℕ) → cond (eqb (fetch_bit f) 1) (some (fetch_of f)) O.none ≡ f
fetch_back O.none = refl
fetch_back (some n) = refl

module _ (p : Plan) where
  runs_entry : (es : List Entry) → Every (λ (e : Entry). FitsE e.expr) es
      → run is_entry entry_of (each entry_label entry_kids es (node (label_p p) (kids_p p) none)) ≡ es
  runs_entry es h = run_each is_entry entry_of entry_label entry_kids (λ e. FitsE e.expr) (λ x. refl) entry_back es _ h
      (no_part p (K.number_q K.EntryPart) (omega arith))

  aggs_stop : (ags : List AggEntry) → Stops is_entry (each agg_label agg_kids ags (node (label_p p) (kids_p p) none))
  unfolding each
  aggs_stop [] = no_part p (K.number_q K.EntryPart) (omega arith)
  aggs_stop (a ∷ ags) = refl

mutual
  unfolding label_p kids_p forest_p plans_of what_of among

  pub plan_back : (p : Plan) (ns : Forest) → FitsP p → plans_of (node (label_p p) (kids_p p) ns) ≡ pcons p (plans_of ns)
  plan_back (scan t fs es) ns h =
      rw (
        run_each is_field field_of field_label nothing_below (λ _. Unit {0}) (λ x. refl) field_back fs (each label_e kids_e es none) (all_fit fs)
            (filters_stop es),
        past_each is_field field_label nothing_below (λ x. refl) fs (each label_e kids_e es none) (filters_stop es),
        filters_back es h,
      )
  plan_back (filter e p) ns h = rw (first_back e (node (label_p p) (kids_p p) none) h.0, (expr_what e).1, plan_back p none h.1)
  plan_back (project es p) ns h = rw
      (runs_entry p es h.0, plans_each entry_label entry_kids K.EntryPart (λ x. refl) es (node (label_p p) (kids_p p) none), plan_back p none h.1)
  plan_back (join k l r on f) ns h =
      rw (
        join_back k,
        run_each is_pair pair_of pair_label pair_kids (λ (k : Pair). FitsE k.lhs × FitsE k.rhs) (λ x. refl) pair_back on (filter_kids f)
            h.2 (own_stops f),
        past_each is_pair pair_label pair_kids (λ x. refl) on (filter_kids f) (own_stops f),
        own_back f h.3,
        plan_back l (node (label_p r) (kids_p r) (each pair_label pair_kids on (filter_kids f))) h.0,
        plan_back r (each pair_label pair_kids on (filter_kids f)) h.1,
      )
  plan_back (alias q p) ns h = rw (plan_back p none h)
  plan_back (union ps) ns h = rw (plans_back ps h)
  plan_back (distinct p) ns h = rw (plan_back p none h)
  plan_back (sort f ks p) ns h =
      rw (
        fetch_back f,
        run_each is_key key_of key_label key_kids (λ (k : Key). FitsE k.expr) (λ x. refl) key_back ks (node (label_p p) (kids_p p) none) h.0
            (no_part p (K.number_q K.KeyPart) (omega arith)),
        plans_each key_label key_kids K.KeyPart (λ x. refl) ks (node (label_p p) (kids_p p) none),
        plan_back p none h.1,
      )
  plan_back (repartition p) ns h = rw (plan_back p none h)
  plan_back (limit n k p) ns h = rw (plan_back p none h)
  plan_back (aggregate gs ags p) ns h =
      let tail = each agg_label agg_kids ags (node (label_p p) (kids_p p) none) in
      rw (
        run_each is_entry entry_of entry_label entry_kids (λ (e : Entry). FitsE e.expr) (λ x. refl) entry_back gs tail h.0 (aggs_stop p ags),
        past_each is_entry entry_label entry_kids (λ x. refl) gs tail (aggs_stop p ags),
        run_each is_agg agg_of agg_label agg_kids (λ (a : AggEntry). FitsE a.expr) (λ x. refl) aggentry_back ags
            (node (label_p p) (kids_p p) none) h.1 (no_part p (K.number_q K.AggPart) (omega arith)),
        plans_each entry_label entry_kids K.EntryPart (λ x. refl) gs tail,
        plans_each agg_label agg_kids K.AggPart (λ x. refl) ags (node (label_p p) (kids_p p) none),
        plan_back p none h.2,
      )
  plan_back (window ws p) ns h =
      rw (
        run_each is_win win_of win_label win_kids (λ (w : WinEntry). FitsE w.expr) (λ x. refl) win_back ws (node (label_p p) (kids_p p) none)
            h.0 (no_part p (K.number_q K.WinPart) (omega arith)),
        plans_each win_label win_kids K.WinPart (λ x. refl) ws (node (label_p p) (kids_p p) none),
        plan_back p none h.1,
      )

  pub plans_back : (ps : Plans) → FitsPs ps → plans_of (forest_p ps) ≡ ps
  plans_back pnil h = refl
  plans_back (pcons p ps) h = rw (plan_back p (forest_p ps) h.0, plans_back ps h.1)

pub plan_at_back : (p : Plan) → FitsP p → plan_at (plan_tree p) ≡ p
unfolding plan_at
plan_at_back p h = ap head_p (plan_back p none h)

-- the first theorem of the bridge: a plan of the right form, whose integers 64 bits hold, is read back from its tree
pub plan_of_back : (p : Plan) → FitsP p → bad_form (plan_tree p) ≡ None → plan_of (plan_tree p) ≡ some p
unfolding plan_of
plan_of_back p h e = rw (e, plan_at_back p h)
