-- Type (7): operands of comparisons, Between and InList share a type; And, Or, Not, tests 3 to 8, the predicate of a Filter and the filters
-- of scans and joins take booleans; the sides of a key pair share a type; Min and Max take integers; the inputs of a Union have equal types
-- by place; scans of one table share field types, and the later scan is named.
use Rattle.std.specs.Prelude.{ℕ, Bool, true, false, ◌||◌, cond, List, [], ◌∷◌, map, eqb}
use Rattle.std.proofs.Math.Option.{Option, none, some}
use Rattle.image.specs.Lowest.{Found, first_false}
use Rattle.plan.specs.Lists.{◌&◌, all}
use Rattle.plan.specs.Syntax.{Op, and, or, cmp, Test, is_null, is_not_null, is_true, is_false, is_unknown, is_not_true, is_not_false, is_not_unknown}
use Rattle.plan.specs.Syntax.{Expr, col, num, bool, nul, bin, neg, test, between, inlist, fn, Exprs, enil, econs, Field, Agg, count, min}
use Rattle.plan.specs.Syntax.{max, Plan, scan, filter, project, join, alias, union, distinct, sort, repartition, limit, aggregate, window}
use Rattle.plan.specs.Syntax.{Plans, pnil, pcons, integer_type, boolean_type}
use Rattle.plan.specs.Types.{Types, type_of_expr, types, types_first, field_types, both_types, Scanned, scans}
use Rattle.acceptance.specs.Marks.{marks_in, Rules, marks_of}

-- ---- expressions

-- And and Or take booleans, comparisons operands of one type
abbrev pub operands : Op → ℕ → ℕ → Bool
operands and a b = eqb a boolean_type & eqb b boolean_type
operands or a b = eqb a boolean_type & eqb b boolean_type
operands (cmp c) a b = eqb a b

-- IsNull and IsNotNull take any type
abbrev pub any_type : Test → Bool
any_type is_null = true
any_type is_not_null = true
any_type is_true = false
any_type is_false = false
any_type is_unknown = false
any_type is_not_true = false
any_type is_not_false = false
any_type is_not_unknown = false

-- all have the type t
unfoldable pub of_type : Types → ℕ → Exprs → Bool
of_type τ t enil = true
of_type τ t (econs x xs) = eqb (type_of_expr τ x) t & of_type τ t xs

-- the operands of an expression have the types that it takes
unfoldable pub typed_operands : Types → Expr → Bool
typed_operands τ (col x) = true
typed_operands τ (num z) = true
typed_operands τ (bool b) = true
typed_operands τ (nul t) = true
typed_operands τ (bin o a b) = operands o (type_of_expr τ a) (type_of_expr τ b)
typed_operands τ (neg a) = eqb (type_of_expr τ a) boolean_type
typed_operands τ (test t a) = any_type t || eqb (type_of_expr τ a) boolean_type
typed_operands τ (between n a l u) = eqb (type_of_expr τ a) (type_of_expr τ l) & eqb (type_of_expr τ a) (type_of_expr τ u)
typed_operands τ (inlist n a xs) = of_type τ (type_of_expr τ a) xs
typed_operands τ (fn p q r xs) = true

abbrev pub is_boolean : Types → Expr → Bool
is_boolean τ e = eqb (type_of_expr τ e) boolean_type

abbrev pub is_boolean? : Types → Option Expr → Bool
is_boolean? τ none = true
is_boolean? τ (some e) = is_boolean τ e

-- ---- plans and their parts

-- Count takes any type, Min and Max integers
abbrev pub takes_type : Agg → ℕ → Bool
takes_type count t = true
takes_type min t = eqb t integer_type
takes_type max t = eqb t integer_type

-- by place, widths included
abbrev pub same_types : List ℕ → List ℕ → Bool
same_types [] [] = true
same_types [] (u ∷ us) = false
same_types (t ∷ ts) [] = false
same_types (t ∷ ts) (u ∷ us) = eqb t u & same_types ts us

-- all inputs have the types ts
abbrev pub united : List ℕ → Plans → Bool
united ts pnil = true
united ts (pcons p ps) = same_types (types p) ts & united ts ps

-- the field types of the first scan of the table t
unfoldable pub first_scanned : ℕ → List Scanned → List ℕ
first_scanned t [] = []
first_scanned t (a ∷ ss) = cond (eqb a.table t) a.row_types (first_scanned t ss)

-- a scan has the field types of the first scan of its table among all scans of the plan
unfoldable pub as_first : List Scanned → Scanned → Bool
as_first ss a = same_types a.row_types (first_scanned a.table ss)

abbrev pub scanned : ℕ → List Field → Scanned
scanned t fs = record { table = t; row_types = map (λ (f : Field). f.ty) fs }

unfoldable pub typed_plan : List Scanned → Plan → Bool
typed_plan ss (scan t fs es) = all (is_boolean (field_types (scan t fs es))) es & as_first ss (scanned t fs)
typed_plan ss (filter e p) = is_boolean (field_types p) e
typed_plan ss (project es p) = true
typed_plan ss (join k l r on f) = is_boolean? (both_types l r) f
typed_plan ss (alias q p) = true
typed_plan ss (union ps) = united (types_first ps) ps
typed_plan ss (distinct p) = true
typed_plan ss (sort f ks p) = true
typed_plan ss (repartition p) = true
typed_plan ss (limit n k p) = true
typed_plan ss (aggregate gs ags p) = true
typed_plan ss (window ws p) = true

-- ---- the test

-- ss: the scans of the whole plan, in reading order
abbrev pub type_rules : List Scanned → Rules Bool
type_rules ss = record {
  plan = typed_plan ss;
  over = λ p. typed_operands (field_types p);
  both = λ l r. typed_operands (both_types l r);
  field = λ f. true;
  entry = λ e. true;
  pair = λ l r k. eqb (type_of_expr (field_types l) k.lhs) (type_of_expr (field_types r) k.rhs);
  key = λ k. true;
  agg = λ p a. takes_type a.fun (type_of_expr (field_types p) a.expr);
  win = λ p w. takes_type w.fun (type_of_expr (field_types p) w.expr);
}

-- the marks of an expression over the types of its columns, and of a plan
abbrev pub types_in : Types → Expr → List Bool
types_in τ e = marks_in (typed_operands τ) e

abbrev pub types_of : List Scanned → Plan → List Bool
types_of ss p = marks_of (type_rules ss) p

unfoldable pub bad_type : Plan → Found
bad_type p = first_false 0 (types_of (scans p) p)
