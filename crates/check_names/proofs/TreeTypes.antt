-- Types (7), asked of the records of a plan's tree, is Type (7) of the plan.
-- Assumes nothing.
use Prim.Native.Nat.{ℕ}
use mathlib.Core.Path.{◌≡◌, refl, sym, ap, ap₂, ◌∙◌}
use mathlib.Core.Bool.{Bool, true, false, ◌||◌, cond}
use mathlib.Core.List.{List, [], ◌∷◌, append-nil}
use mathlib.Core.Option as O
use mathlib.Core.Option.{Option, some}
use lib.Dec.{eqb, leb}
use borrow.Author.Tests.{eqb-true, eqb-false, eq-eqb, ne_eqb}
use Rattle.image.specs.Tree.{Label, Forest, none}
use Rattle.image.specs.Lowest.{alone}
use Rattle.plan.specs.Kinds as K
use Rattle.plan.specs.Kinds.{part, what, what_of, among}
use Rattle.plan.specs.Lists.{◌&◌, put, all}
use Rattle.plan.proofs.Lists.{and_true, true_and, and_intro}
use Rattle.plan.specs.Syntax.{Op, and, or, cmp, eq, ne, lt, le, gt, ge, Test, is_null, is_not_null, is_true, is_false, is_unknown, is_not_true}
use Rattle.plan.specs.Syntax.{is_not_false, is_not_unknown, Expr, col, num, bool, nul, bin, neg, test, between, inlist, fn, Exprs, enil, econs}
use Rattle.plan.specs.Syntax.{Pair, Agg, count, min, max, AggEntry, WinEntry, Plan, scan, filter, project, join, alias, union, distinct}
use Rattle.plan.specs.Syntax.{sort, repartition, limit, aggregate, window, Plans, pnil, pcons}
use Rattle.plan.specs.Trees.{op_number, test_number, agg_number, column_label, label_e, kids_e, forest_e, in_front, each, nothing_below, field_label}
use Rattle.plan.specs.Trees.{pair_label, pair_kids, agg_label, agg_kids, win_label, win_kids, filter_kids, label_p, kids_p, plan_tree}
use Rattle.plan.specs.Types.{type_of_expr, types, types_first, field_types, both_types, Scanned, scans}
use Rattle.plan.proofs.Written.{expr_what}
use Rattle.acceptance.specs.Types as A
use Rattle.acceptance.specs.Types.{operands, any_type, of_type, typed_operands, is_boolean, is_boolean?, takes_type, same_types}
use Rattle.acceptance.specs.Types.{first_scanned, as_first, typed_plan, type_rules, bad_type}
use Rattle.check_fields.specs.Fields.{Schema, type_in, first}
use Rattle.check_fields.specs.Rules.{Scope, over, seen, hand, types_of, booleans, alike, types_in, united, scan_types, type_ok_by, type_ok}
use Rattle.check_fields.specs.Rules.{bad_types}
use Rattle.check_names.proofs.TreeFields.{stand, plan_what, type_label, fields, fields_all, inputs_plans, fields_types, fields_typed}
use Rattle.check_names.proofs.TreeFields.{both_typed, scan_types_lem}
use Rattle.check_names.proofs.TreeMarks.{Agrees, over_one, over_both, below, hand_plan, tree_lowest}
use Rattle.check_names.proofs.TreeScans.{tree_scans}

-- ---- numbers, side by side

eqb_comm : (a b : ℕ) → eqb a b ≡ eqb b a
eqb_comm a b = go (eqb b a) refl
  where
    go : (x : Bool) → eqb b a ≡ x → eqb a b ≡ x
    go true e = eq-eqb a b (sym (eqb-true b a e))
    go false e = ne_eqb a b (λ q. eqb-false b a e (sym q))

one_boolean : (t : ℕ) → booleans (t ∷ []) ≡ eqb t 2
unfolding all
one_boolean t = rw and_true (eqb_comm 2 t)

two_booleans : (t u : ℕ) → booleans (t ∷ u ∷ []) ≡ eqb t 2 & eqb u 2
unfolding all
two_booleans t u = ap₂ ◌&◌ (eqb_comm 2 t) (one_boolean u)

two_alike : (t u : ℕ) → alike (t ∷ u ∷ []) ≡ eqb t u
unfolding alike all
two_alike t u = and_true (eqb t u)

three_alike : (t u v : ℕ) → alike (t ∷ u ∷ v ∷ []) ≡ eqb t u & eqb t v
unfolding alike all
three_alike t u v = ap (eqb t u &◌) (and_true (eqb t v))

operands_by : (o : Op) (t u : ℕ) → cond (leb (op_number o) 2) (booleans (t ∷ u ∷ [])) (alike (t ∷ u ∷ [])) ≡ operands o t u
operands_by and t u = two_booleans t u
operands_by or t u = two_booleans t u
operands_by (cmp eq) t u = two_alike t u
operands_by (cmp ne) t u = two_alike t u
operands_by (cmp lt) t u = two_alike t u
operands_by (cmp le) t u = two_alike t u
operands_by (cmp gt) t u = two_alike t u
operands_by (cmp ge) t u = two_alike t u

any_by : (t : Test) → leb (test_number t) 2 ≡ any_type t
any_by is_null = refl
any_by is_not_null = refl
any_by is_true = refl
any_by is_false = refl
any_by is_unknown = refl
any_by is_not_true = refl
any_by is_not_false = refl
any_by is_not_unknown = refl

takes_by : (f : Agg) (t : ℕ) → eqb (agg_number f) 1 || eqb t 1 ≡ takes_type f t
takes_by count t = refl
takes_by min t = refl
takes_by max t = refl

-- ---- the types of the expressions among a record's children

types_expr : (c after : Scope) (e : Expr) (ns : Forest)
    → types_of c after (in_front e ns) ≡ type_of_expr (type_in (seen c)) e ∷ types_of after after ns
unfolding types_of put
types_expr c after e ns = rw ((expr_what e).1, type_label (seen c) e)

types_none : (c after : Scope) → types_of c after none ≡ []
unfolding types_of
types_none c after = refl

types_plan : (c : Scope) (p : Plan) (ns : Forest) → types_of c c (stand p ns) ≡ types_of c c ns
unfolding types_of put
types_plan c p ns = rw (plan_what p).1

types_parts : {A : Type 0} (q : K.PartKind) (l : A → Label) (k : A → Forest) → ((x : A) → what (l x) ≡ part q)
    → (c : Scope) (xs : List A) (ns : Forest) → types_of c c (each l k xs ns) ≡ types_of c c ns
unfolding types_of put each
types_parts q l k h c [] ns = refl
types_parts q l k h c (x ∷ xs) ns = rw (h x) (types_parts q l k h c xs ns)

-- ---- expressions

alike_exprs : (c : Scope) (t : ℕ) (xs : Exprs) → alike (t ∷ types_of c c (forest_e xs)) ≡ of_type (type_in (seen c)) t xs
unfolding forest_e alike all of_type
alike_exprs c t enil = rw (types_none c c)
alike_exprs c t (econs x xs) =
    rw (types_expr c c x (forest_e xs)) (ap₂ ◌&◌ (eqb_comm t (type_of_expr (type_in (seen c)) x)) (alike_exprs c t xs))

module _ (root : Forest) where
  type_expr : (c : Scope) (e : Expr) → type_ok root c (label_e e) (kids_e e) ≡ typed_operands (type_in (seen c)) e
  unfolding type_ok label_e kids_e hand what_of among typed_operands
  type_expr c (col x) = refl
  type_expr c (num z) = refl
  type_expr c (bool b) = refl
  type_expr c (nul t) = refl
  type_expr c (bin o a b) = rw (types_expr c c a (in_front b none), types_expr c c b none, types_none c c) (operands_by o _ _)
  type_expr c (neg a) = rw (types_expr c c a none, types_none c c) (one_boolean _)
  type_expr c (test t a) = rw (types_expr c c a none, types_none c c, any_by t) (ap (any_type t ||◌) (one_boolean _))
  type_expr c (between n a l u) =
      rw (types_expr c c a (in_front l (in_front u none)), types_expr c c l (in_front u none), types_expr c c u none, types_none c c)
      (three_alike _ _ _)
  type_expr c (inlist n a xs) = rw (types_expr c c a (forest_e xs)) (alike_exprs c _ xs)
  type_expr c (fn p q r xs) = refl

-- ---- what the rules of plans ask of types

-- the fields of one plan, by name
one_typed : (p : Plan) → type_in (seen (over_one p)) ≡ field_types p
one_typed p = rw append-nil (fields_typed p)

filters_boolean : (p : Plan) (es : List Expr)
    → booleans (types_of (over_one p) (over_one p) (each label_e kids_e es none)) ≡ all (is_boolean (field_types p)) es
unfolding each all
filters_boolean p [] = rw (types_none (over_one p) (over_one p))
filters_boolean p (e ∷ es) =
    rw (types_expr (over_one p) (over_one p) e (each label_e kids_e es none), one_typed p)
    (ap₂ ◌&◌ (eqb_comm 2 (type_of_expr (field_types p) e)) (filters_boolean p es))

filter_boolean : (l r : Plan) (f : Option Expr)
    → booleans (types_of (over_both l r) (over_both l r) (filter_kids f)) ≡ is_boolean? (both_types l r) f
unfolding all
filter_boolean l r O.none = rw (types_none (over_both l r) (over_both l r))
filter_boolean l r (some e) =
    rw (types_expr (over_both l r) (over_both l r) e none, types_none (over_both l r) (over_both l r), both_typed l r)
    (one_boolean (type_of_expr (both_types l r) e))

-- the first input of a Union is compared with the others here, and with itself too in the plan's rule
same_types_refl : (ts : List ℕ) → same_types ts ts ≡ true
same_types_refl [] = refl
same_types_refl (t ∷ ts) = and_intro (eq-eqb t t refl) (same_types_refl ts)

others_united : (s : Schema) (ts : List ℕ) → types_in s ≡ ts → (ps : Plans)
    → all (λ t. same_types (types_in t) (types_in s)) (fields_all ps) ≡ A.united ts ps
unfolding fields all
others_united s ts h pnil = refl
others_united s ts h (pcons p ps) = ap₂ ◌&◌ (ap₂ same_types (fields_types p) h) (others_united s ts h ps)

all_united : (ps : Plans) → united (fields_all ps) ≡ A.united (types_first ps) ps
unfolding fields united types
all_united pnil = refl
all_united (pcons p ps) = rw (same_types_refl (types p), true_and) (others_united (fields p) (types p) (fields_types p) ps)

-- ---- plans, and their parts

module _ (root : Forest) (ss : List Scanned) (h : (t : ℕ) → scan_types t [] root ≡ first_scanned t ss) where
  -- the rule of a plan's record sees the types of the expressions that stand below it
  own_types : (c : Scope) (p : Plan)
      → type_ok root c (label_p p) (kids_p p) ≡ type_ok_by (what (label_p p)) root (label_p p) (kids_p p) (types_of (below p) (below p) (kids_p p))
  unfolding type_ok
  own_types c p = rw (hand_plan c p)

  type_plan : (c : Scope) (p : Plan) → type_ok root c (label_p p) (kids_p p) ≡ typed_plan ss p
  unfolding label_p kids_p what_of among typed_plan as_first
  type_plan c (scan t fs es) =
      let d = over_one (scan t fs es) in
      own_types c (scan t fs es)
      ∙ rw (
        types_parts K.FieldPart field_label nothing_below (λ x. refl) d fs (each label_e kids_e es none),
        filters_boolean (scan t fs es) es,
        scan_types_lem fs es,
        h t,
      )
  type_plan c (filter e p) =
      let d = over_one p in
      own_types c (filter e p)
      ∙ rw (types_expr d d e (stand p none), types_plan d p none, types_none d d, one_typed p) (one_boolean (type_of_expr (field_types p) e))
  type_plan c (project es p) = own_types c (project es p)
  type_plan c (join k l r on f) =
      let d = over_both l r in
      let rest = each pair_label pair_kids on (filter_kids f) in
      let keys = types_parts K.PairPart pair_label pair_kids (λ x. refl) d on (filter_kids f) in
      own_types c (join k l r on f) ∙ rw (types_plan d l (stand r rest), types_plan d r rest, keys) (filter_boolean l r f)
  type_plan c (alias q p) = own_types c (alias q p)
  type_plan c (union ps) = own_types c (union ps) ∙ rw (inputs_plans ps) (all_united ps)
  type_plan c (distinct p) = own_types c (distinct p)
  type_plan c (sort f ks p) = own_types c (sort f ks p)
  type_plan c (repartition p) = own_types c (repartition p)
  type_plan c (limit n k p) = own_types c (limit n k p)
  type_plan c (aggregate gs ags p) = own_types c (aggregate gs ags p)
  type_plan c (window ws p) = own_types c (window ws p)

  type_pair : (l r : Plan) (k : Pair)
      → type_ok root (over_both l r) (pair_label k) (pair_kids k) ≡ eqb (type_of_expr (field_types l) k.lhs) (type_of_expr (field_types r) k.rhs)
  unfolding type_ok hand what_of among
  type_pair l r k =
      rw (
        types_expr (over_one l) (over_one r) k.lhs (in_front k.rhs none),
        types_expr (over_one r) (over_one r) k.rhs none,
        types_none (over_one r) (over_one r),
        one_typed l,
        one_typed r,
      )
      (two_alike _ _)

  type_agg : (p : Plan) (x : AggEntry) → type_ok root (over_one p) (agg_label x) (agg_kids x) ≡ takes_type x.fun (type_of_expr (field_types p) x.expr)
  unfolding type_ok hand what_of among first
  type_agg p x = rw (types_expr (over_one p) (over_one p) x.expr none, one_typed p) (takes_by x.fun _)

  type_win : (p : Plan) (w : WinEntry) → type_ok root (over_one p) (win_label w) (win_kids w) ≡ takes_type w.fun (type_of_expr (field_types p) w.expr)
  unfolding type_ok hand what_of among first
  type_win p w =
      rw (types_expr (over_one p) (over_one p) w.expr (each column_label nothing_below w.parts none), one_typed p) (takes_by w.fun _)

  types_agree : Agrees (type_ok root) (type_rules ss)
  unfolding type_ok what_of among
  types_agree = record {
    plan = type_plan;
    one = λ p e. type_expr root (over_one p) e ∙ ap (λ τ. typed_operands τ e) (one_typed p);
    both = λ l r e. type_expr root (over_both l r) e ∙ ap (λ τ. typed_operands τ e) (both_typed l r);
    field = λ c f. refl;
    entry = λ c e. refl;
    pair = type_pair;
    key = λ c k. refl;
    agg = type_agg;
    win = type_win;
  }

-- the records of a plan's tree break the type rules first where the plan does
pub tree_types : (p : Plan) → bad_types (plan_tree p) ≡ bad_type p
unfolding bad_types bad_type
tree_types p =
    let root = alone (plan_tree p) in
    tree_lowest (type_ok root) (type_rules (scans p)) (types_agree root (scans p) (λ t. tree_scans t p)) (over [] []) p
