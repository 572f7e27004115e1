-- The rules of names (6) and types (7) as rules of one record: what it stands over is handed down from its parent.
use Rattle.std.specs.Prelude.{Bool, true, ◌||◌, cond, List, [], ◌∷◌, ◌++◌, map, ℕ, eqb, leb}
use Rattle.image.specs.Tree.{Label, Forest, none, node, Tree}
use Rattle.plan.specs.Lists.{◌&◌, put, all}
use Rattle.plan.specs.Kinds.{What, expr, plan, part, unknown, what, is_expr, is_kind, ExprKind, Column, Integer, Boolean, Null, Binary, Not}
use Rattle.plan.specs.Kinds.{Test, Between, InList, Function, PlanKind, TableScan, Filter, Projection, Join, SubqueryAlias, Union, Distinct}
use Rattle.plan.specs.Kinds.{Sort, Repartition, Limit, Aggregate, Window, PartKind, FieldPart, EntryPart, PairPart, KeyPart, AggPart}
use Rattle.plan.specs.Kinds.{WinPart, number_p}
use Rattle.image.specs.Lowest.{Found, lowest, alone}
use Rattle.plan.specs.Syntax.{no_type, integer_type, boolean_type, or, is_not_null, count}
use Rattle.plan.specs.Trees.{op_number, test_number, agg_number}
use Rattle.plan.specs.FieldSources.{joins, role_p}
use Rattle.plan.specs.declared.field_sources.Role.{Role}
use Rattle.check_fields.specs.Fields.{Fld, Schema, name_of, type_of, input, made, parts_over, fields_by, inputs, names_in, first}
use Rattle.acceptance.specs.Names.{sound, holders}
use Rattle.acceptance.specs.Types.{same_types}

-- What an expression stands over: the fields of both. A join's key pairs and filter have its two inputs, all others one schema.
pub record Scope : Type 0 where
  pub left : Schema
  pub right : Schema

abbrev pub over : Schema → Schema → Scope
over l r = record { left = l; right = r }

abbrev pub seen : Scope → Schema
seen c = c.left ++ c.right

abbrev pub hand_p : PlanKind → Forest → List Schema → Scope
hand_p TableScan cs ins = over (made [] cs) []
hand_p Filter cs ins = over (input 0 ins) []
hand_p Projection cs ins = over (input 0 ins) []
hand_p Join cs ins = over (input 0 ins) (input 1 ins)
hand_p SubqueryAlias cs ins = over (input 0 ins) []
hand_p Union cs ins = over [] []
hand_p Distinct cs ins = over (input 0 ins) []
hand_p Sort cs ins = over (input 0 ins) []
hand_p Repartition cs ins = over (input 0 ins) []
hand_p Limit cs ins = over (input 0 ins) []
hand_p Aggregate cs ins = over (input 0 ins) []
hand_p Window cs ins = over (input 0 ins) []

-- what a record hands to its first child and to the others: a key pair its left input to the one, its right to the other
abbrev pub hand_q : PartKind → Scope → Scope × Scope
hand_q FieldPart c = (c, c)
hand_q EntryPart c = (c, c)
hand_q PairPart c = (over c.left [], over c.right [])
hand_q KeyPart c = (c, c)
hand_q AggPart c = (c, c)
hand_q WinPart c = (c, c)

abbrev pub hand_by : What → Scope → Forest → Scope × Scope
hand_by (expr k) c cs = (c, c)
hand_by (plan k) c cs = let d = hand_p k cs (inputs cs) in (d, d)
hand_by (part k) c cs = hand_q k c
hand_by unknown c cs = (c, c)

unfoldable pub hand : Scope → Label → Forest → Scope × Scope
hand c l cs = hand_by (what l) c cs

-- a reference names one field of what it stands over
abbrev pub name_e : ExprKind → Scope → Label → Bool
name_e Column c l = eqb (holders (names_in (seen c)) (name_of l)) 1
name_e Integer c l = true
name_e Boolean c l = true
name_e Null c l = true
name_e Binary c l = true
name_e Not c l = true
name_e Test c l = true
name_e Between c l = true
name_e InList c l = true
name_e Function c l = true

-- a plan's schema is sound, and so are the inputs of a join together: by the plan's role and its p, the fields of its parts, and its inputs'
abbrev pub sound_by : Role → ℕ → Schema → List Schema → Bool
sound_by r p parts ins =
    sound (names_in (fields_by r p parts ins)) & cond (joins r) (sound (names_in (input 0 ins ++ input 1 ins))) true

abbrev pub name_by : What → Scope → Label → Forest → Bool
name_by (expr k) c l cs = name_e k c l
name_by (plan k) c l cs = sound_by (role_p k) l.p (made (parts_over (number_p k) (inputs cs)) cs) (inputs cs)
name_by (part k) c l cs = true
name_by unknown c l cs = true

unfoldable pub name_ok : Scope → Label → Forest → Bool
name_ok c l cs = name_by (what l) c l cs

-- Name (6), on the records of a tree
unfoldable pub bad_names : Tree → Found
bad_names t = lowest name_ok hand (over [] []) (over [] []) 0 (alone t)

-- ---- Type (7)

-- the types of the expressions of a forest
unfoldable pub types_of : Scope → Scope → Forest → List ℕ
types_of c after none = []
types_of c after (node l cs ns) = put (is_expr l) (type_of (seen c) l) (types_of after after ns)

abbrev pub booleans : List ℕ → Bool
booleans ts = all (eqb boolean_type) ts

unfoldable pub alike : List ℕ → Bool
alike [] = true
alike (t ∷ ts) = all (eqb t) ts

unfoldable pub types_in : Schema → List ℕ
types_in s = map (λ (f : Fld). f.ty) s

-- the inputs of a Union have the types of the first, by place
unfoldable pub united : List Schema → Bool
united [] = true
united (s ∷ ss) = all (λ t. same_types (types_in t) (types_in s)) ss

-- the field types of the forest's first scan of the table t; d if it has none
unfoldable pub scan_types : ℕ → List ℕ → Forest → List ℕ
scan_types t d none = d
scan_types t d (node l cs ns) = cond (is_kind (plan TableScan) l & eqb l.p t) (types_in (made [] cs)) (scan_types t (scan_types t d ns) cs)

-- ts: the types of the record's own expressions
abbrev pub type_ok_e : ExprKind → Label → List ℕ → Bool
type_ok_e Column l ts = true
type_ok_e Integer l ts = true
type_ok_e Boolean l ts = true
type_ok_e Null l ts = true
type_ok_e Binary l ts = cond (leb l.p (op_number or)) (booleans ts) (alike ts)
type_ok_e Not l ts = booleans ts
type_ok_e Test l ts = leb l.p (test_number is_not_null) || booleans ts
type_ok_e Between l ts = alike ts
type_ok_e InList l ts = alike ts
type_ok_e Function l ts = true

-- root: the whole plan, for the earlier scans of a table
abbrev pub type_ok_p : PlanKind → Forest → Label → Forest → List ℕ → Bool
type_ok_p TableScan root l cs ts = booleans ts & same_types (types_in (made [] cs)) (scan_types l.p [] root)
type_ok_p Filter root l cs ts = booleans ts
type_ok_p Projection root l cs ts = true
type_ok_p Join root l cs ts = booleans ts
type_ok_p SubqueryAlias root l cs ts = true
type_ok_p Union root l cs ts = united (inputs cs)
type_ok_p Distinct root l cs ts = true
type_ok_p Sort root l cs ts = true
type_ok_p Repartition root l cs ts = true
type_ok_p Limit root l cs ts = true
type_ok_p Aggregate root l cs ts = true
type_ok_p Window root l cs ts = true

-- Count takes any type, Min and Max integers; a window entry's partition columns any
abbrev pub type_ok_q : PartKind → Label → List ℕ → Bool
type_ok_q FieldPart l ts = true
type_ok_q EntryPart l ts = true
type_ok_q PairPart l ts = alike ts
type_ok_q KeyPart l ts = true
type_ok_q AggPart l ts = eqb l.r (agg_number count) || eqb (first no_type ts) integer_type
type_ok_q WinPart l ts = eqb l.r (agg_number count) || eqb (first no_type ts) integer_type

abbrev pub type_ok_by : What → Forest → Label → Forest → List ℕ → Bool
type_ok_by (expr k) root l cs ts = type_ok_e k l ts
type_ok_by (plan k) root l cs ts = type_ok_p k root l cs ts
type_ok_by (part k) root l cs ts = type_ok_q k l ts
type_ok_by unknown root l cs ts = true

unfoldable pub type_ok : Forest → Scope → Label → Forest → Bool
type_ok root c l cs = type_ok_by (what l) root l cs (types_of (hand c l cs).0 (hand c l cs).1 cs)

-- Type (7), on the records of a tree
unfoldable pub bad_types : Tree → Found
bad_types t = lowest (type_ok (alone t)) hand (over [] []) (over [] []) 0 (alone t)
