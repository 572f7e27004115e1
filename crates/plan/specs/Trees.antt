-- A plan as a tree of records.
use Rattle.std.specs.Prelude.{ℕ, ◌-◌, ◌/◌, ◌%◌, Bool, true, false, List, [], ◌∷◌, eqb, ℤ, pos, negsuc}
use Rattle.std.proofs.Math.Option as O
use Rattle.std.proofs.Math.Option.{Option, some}
use Rattle.image.specs.Tree.{Label, Forest, none, node, Tree}
use Rattle.plan.specs.Kinds as K
use Rattle.plan.specs.Kinds.{What, expr, plan, part}
use Rattle.plan.specs.Syntax.{Name, nm, eq, ne, lt, le, gt, ge, Op, and, or, cmp, Test, is_null, is_not_null, is_true, is_false, is_unknown}
use Rattle.plan.specs.Syntax.{is_not_true, is_not_false, is_not_unknown, Expr, col, num, bool, nul, bin, neg, test, between, inlist, fn}
use Rattle.plan.specs.Syntax.{Exprs, enil, econs, Field, Entry, Pair, Key, Agg, count, min, max, AggEntry, WinEntry, Kind, inner}
use Rattle.plan.specs.Syntax.{left, right, full, left_semi, right_semi, left_anti, right_anti, Plan, scan, filter, project, join, alias}
use Rattle.plan.specs.Syntax.{union, distinct, sort, repartition, limit, aggregate, window, Plans, pnil, pcons}

-- ---- numbers

-- the halves of a signed 64-bit number, by two's complement
unfoldable pub low_half : ℤ → ℕ
low_half (pos n) = n % 4294967296
low_half (negsuc n) = 4294967295 - n % 4294967296

unfoldable pub high_half : ℤ → ℕ
high_half (pos n) = n / 4294967296
high_half (negsuc n) = 4294967295 - n / 4294967296

abbrev pub bit_of : Bool → ℕ
bit_of false = 0
bit_of true = 1

-- the bit of true
abbrev pub is_set : ℕ → Bool
is_set w = eqb w (bit_of true)

abbrev pub qualifier : Name → ℕ
qualifier (nm q n) = q

abbrev pub ident : Name → ℕ
ident (nm q n) = n

abbrev pub op_number : Op → ℕ
op_number and = 1
op_number or = 2
op_number (cmp eq) = 3
op_number (cmp ne) = 4
op_number (cmp lt) = 5
op_number (cmp le) = 6
op_number (cmp gt) = 7
op_number (cmp ge) = 8

abbrev pub test_number : Test → ℕ
test_number is_null = 1
test_number is_not_null = 2
test_number is_true = 3
test_number is_false = 4
test_number is_unknown = 5
test_number is_not_true = 6
test_number is_not_false = 7
test_number is_not_unknown = 8

abbrev pub join_number : Kind → ℕ
join_number inner = 1
join_number left = 2
join_number right = 3
join_number full = 4
join_number left_semi = 5
join_number right_semi = 6
join_number left_anti = 7
join_number right_anti = 8

abbrev pub agg_number : Agg → ℕ
agg_number count = 1
agg_number min = 2
agg_number max = 3

-- ---- trees of expressions

abbrev pub label : What → ℕ → ℕ → ℕ → ℕ → ℕ → Label
label w p q r lo hi = record { kind = K.number_of w; p = p; q = q; r = r; lo = lo; hi = hi }

abbrev pub column_label : Name → Label
column_label x = label (expr K.Column) (qualifier x) (ident x) 0 0 0

unfoldable pub label_e : Expr → Label
label_e (col x) = column_label x
label_e (num z) = label (expr K.Integer) 0 0 0 (low_half z) (high_half z)
label_e (bool b) = label (expr K.Boolean) (bit_of b) 0 0 0 0
label_e (nul t) = label (expr K.Null) t 0 0 0 0
label_e (bin o a b) = label (expr K.Binary) (op_number o) 0 0 0 0
label_e (neg a) = label (expr K.Not) 0 0 0 0 0
label_e (test t a) = label (expr K.Test) (test_number t) 0 0 0 0
label_e (between n a l h) = label (expr K.Between) (bit_of n) 0 0 0 0
label_e (inlist n a xs) = label (expr K.InList) (bit_of n) 0 0 0 0
label_e (fn p q r xs) = label (expr K.Function) p q r 0 0

unfoldable mutual
  pub kids_e : Expr → Forest
  kids_e (col x) = none
  kids_e (num z) = none
  kids_e (bool b) = none
  kids_e (nul t) = none
  kids_e (bin o a b) = node (label_e a) (kids_e a) (node (label_e b) (kids_e b) none)
  kids_e (neg a) = node (label_e a) (kids_e a) none
  kids_e (test t a) = node (label_e a) (kids_e a) none
  kids_e (between n a l h) = node (label_e a) (kids_e a) (node (label_e l) (kids_e l) (node (label_e h) (kids_e h) none))
  kids_e (inlist n a xs) = node (label_e a) (kids_e a) (forest_e xs)
  kids_e (fn p q r xs) = forest_e xs

  pub forest_e : Exprs → Forest
  forest_e enil = none
  forest_e (econs x xs) = node (label_e x) (kids_e x) (forest_e xs)

abbrev pub expr_tree : Expr → Tree
expr_tree e = record { label = label_e e; below = kids_e e }

-- the expression in front of other trees
abbrev pub in_front : Expr → Forest → Forest
in_front e ns = node (label_e e) (kids_e e) ns

-- ---- trees of parts

-- a run of parts in front of other trees
unfoldable pub each : {A : Type 0} → (A → Label) → (A → Forest) → List A → Forest → Forest
each l k [] ns = ns
each l k (x ∷ xs) ns = node (l x) (k x) (each l k xs ns)

abbrev pub nothing_below : {A : Type 0} → A → Forest
nothing_below x = none

abbrev pub field_label : Field → Label
field_label f = label (part K.FieldPart) (qualifier f.name) (ident f.name) f.ty (bit_of f.exact) 0

abbrev pub entry_label : Entry → Label
entry_label e = label (part K.EntryPart) (qualifier e.name) (ident e.name) 0 0 0

abbrev pub entry_kids : Entry → Forest
entry_kids e = in_front e.expr none

abbrev pub pair_label : Pair → Label
pair_label k = label (part K.PairPart) 0 0 0 0 0

abbrev pub pair_kids : Pair → Forest
pair_kids k = in_front k.lhs (in_front k.rhs none)

abbrev pub key_label : Key → Label
key_label k = label (part K.KeyPart) (bit_of k.desc) 0 0 0 0

abbrev pub key_kids : Key → Forest
key_kids k = in_front k.expr none

abbrev pub agg_label : AggEntry → Label
agg_label a = label (part K.AggPart) (qualifier a.name) (ident a.name) (agg_number a.fun) 0 0

abbrev pub agg_kids : AggEntry → Forest
agg_kids a = in_front a.expr none

abbrev pub win_label : WinEntry → Label
win_label w = label (part K.WinPart) (qualifier w.name) (ident w.name) (agg_number w.fun) 0 0

abbrev pub win_kids : WinEntry → Forest
win_kids w = in_front w.expr (each column_label nothing_below w.parts none)

-- ---- trees of plans

abbrev pub fetch_bit : Option ℕ → ℕ
fetch_bit O.none = bit_of false
fetch_bit (some n) = bit_of true

-- the bit of a fetch
abbrev pub has_fetch : ℕ → Bool
has_fetch w = is_set w

abbrev pub fetch_of : Option ℕ → ℕ
fetch_of O.none = 0
fetch_of (some n) = n

abbrev pub filter_kids : Option Expr → Forest
filter_kids O.none = none
filter_kids (some e) = in_front e none

unfoldable pub label_p : Plan → Label
label_p (scan t fs es) = label (plan K.TableScan) t 0 0 0 0
label_p (filter e p) = label (plan K.Filter) 0 0 0 0 0
label_p (project es p) = label (plan K.Projection) 0 0 0 0 0
label_p (join k l r on f) = label (plan K.Join) (join_number k) 0 0 0 0
label_p (alias q p) = label (plan K.SubqueryAlias) q 0 0 0 0
label_p (union ps) = label (plan K.Union) 0 0 0 0 0
label_p (distinct p) = label (plan K.Distinct) 0 0 0 0 0
label_p (sort f ks p) = label (plan K.Sort) (fetch_bit f) 0 0 (fetch_of f) 0
label_p (repartition p) = label (plan K.Repartition) 0 0 0 0 0
label_p (limit n k p) = label (plan K.Limit) 0 0 0 n k
label_p (aggregate gs ags p) = label (plan K.Aggregate) 0 0 0 0 0
label_p (window ws p) = label (plan K.Window) 0 0 0 0 0

unfoldable mutual
  pub kids_p : Plan → Forest
  kids_p (scan t fs es) = each field_label nothing_below fs (each label_e kids_e es none)
  kids_p (filter e p) = in_front e (node (label_p p) (kids_p p) none)
  kids_p (project es p) = each entry_label entry_kids es (node (label_p p) (kids_p p) none)
  kids_p (join k l r on f) = node (label_p l) (kids_p l) (node (label_p r) (kids_p r) (each pair_label pair_kids on (filter_kids f)))
  kids_p (alias q p) = node (label_p p) (kids_p p) none
  kids_p (union ps) = forest_p ps
  kids_p (distinct p) = node (label_p p) (kids_p p) none
  kids_p (sort f ks p) = each key_label key_kids ks (node (label_p p) (kids_p p) none)
  kids_p (repartition p) = node (label_p p) (kids_p p) none
  kids_p (limit n k p) = node (label_p p) (kids_p p) none
  kids_p (aggregate gs ags p) = each entry_label entry_kids gs (each agg_label agg_kids ags (node (label_p p) (kids_p p) none))
  kids_p (window ws p) = each win_label win_kids ws (node (label_p p) (kids_p p) none)

  pub forest_p : Plans → Forest
  forest_p pnil = none
  forest_p (pcons p ps) = node (label_p p) (kids_p p) (forest_p ps)

abbrev pub plan_tree : Plan → Tree
plan_tree p = record { label = label_p p; below = kids_p p }
