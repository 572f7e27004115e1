-- The types of expressions and of the fields of a schema; the scans of a plan, with the types of their fields.
use Rattle.std.specs.Prelude.{ℕ, List, [], ◌∷◌, ◌++◌, map}
use Rattle.plan.specs.Syntax.{no_type, integer_type, boolean_type}
use Rattle.plan.specs.Syntax.{Name, Expr, col, num, bool, nul, bin, neg, test, between, inlist, fn, Field, Entry, AggEntry, WinEntry}
use Rattle.plan.specs.Syntax.{Kind, inner, left, right, full, left_semi, right_semi, left_anti, right_anti, Plan, scan, filter, project}
use Rattle.plan.specs.Syntax.{join, alias, union, distinct, sort, repartition, limit, aggregate, window, Plans, pnil, pcons}
use Rattle.plan.specs.Schema.{look_d, schema}

abbrev pub Types : Type 0
Types = Name → ℕ

-- ---- expressions

unfoldable pub type_of_expr : Types → Expr → ℕ
type_of_expr τ (col x) = τ x
type_of_expr τ (num z) = integer_type
type_of_expr τ (bool b) = boolean_type
type_of_expr τ (nul t) = t
type_of_expr τ (bin o a b) = boolean_type
type_of_expr τ (neg a) = boolean_type
type_of_expr τ (test t a) = boolean_type
type_of_expr τ (between n a l u) = boolean_type
type_of_expr τ (inlist n a xs) = boolean_type
type_of_expr τ (fn p q r xs) = r

abbrev pub side_types : Kind → List ℕ → List ℕ → List ℕ
side_types inner s t = s ++ t
side_types left s t = s ++ t
side_types right s t = s ++ t
side_types full s t = s ++ t
side_types left_semi s t = s
side_types right_semi s t = t
side_types left_anti s t = s
side_types right_anti s t = t

-- the types of the fields, by place, and by name
unfoldable mutual
  unfolding schema

  pub types : Plan → List ℕ
  types (scan t fs es) = map (λ (f : Field). f.ty) fs
  types (filter e p) = types p
  types (project es p) = map (λ (e : Entry). type_of_expr (look_d no_type (schema p) (types p)) e.expr) es
  types (join k l r on f) = side_types k (types l) (types r)
  types (alias q p) = types p
  types (union ps) = types_first ps
  types (distinct p) = types p
  types (sort f ks p) = types p
  types (repartition p) = types p
  types (limit n k p) = types p
  types (aggregate gs ags p) =
      map (λ (e : Entry). type_of_expr (look_d no_type (schema p) (types p)) e.expr) gs ++ map (λ (a : AggEntry). integer_type) ags
  types (window ws p) = types p ++ map (λ (w : WinEntry). integer_type) ws

  pub types_first : Plans → List ℕ
  types_first pnil = []
  types_first (pcons p ps) = types p

abbrev pub field_types : Plan → Types
field_types p = look_d no_type (schema p) (types p)

-- the types of both inputs of a join
abbrev pub both_types : Plan → Plan → Types
both_types l r = look_d no_type (schema l ++ schema r) (types l ++ types r)

-- ---- the scans of a plan, in reading order: the table, and the types of its fields by place

pub record Scanned : Type 0 where
  pub table : ℕ
  pub row_types : List ℕ

unfoldable mutual
  pub scans : Plan → List Scanned
  scans (scan t fs es) = record { table = t; row_types = map (λ (f : Field). f.ty) fs } ∷ []
  scans (filter e p) = scans p
  scans (project es p) = scans p
  scans (join k l r on f) = scans l ++ scans r
  scans (alias q p) = scans p
  scans (union ps) = scans_all ps
  scans (distinct p) = scans p
  scans (sort f ks p) = scans p
  scans (repartition p) = scans p
  scans (limit n k p) = scans p
  scans (aggregate gs ags p) = scans p
  scans (window ws p) = scans p

  pub scans_all : Plans → List Scanned
  scans_all pnil = []
  scans_all (pcons p ps) = scans p ++ scans_all ps
