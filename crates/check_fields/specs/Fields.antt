-- The schema of a plan, read off its records: made of its label, its children and the schemas of its inputs. On the tree of a plan it is
-- the plan's schema (proofs), and the code, which has records and no plan, is proved against it.
use Rattle.std.specs.Prelude.{cond, List, [], ◌∷◌, ◌++◌, map, ℕ, zero, suc, eqb}
use Rattle.image.specs.Tree.{Label, Forest, none, node}
use Rattle.plan.specs.Kinds.{What, expr, plan, part, unknown, what, ExprKind, Column, Integer, Boolean, Null, Binary, Not, Test, Between}
use Rattle.plan.specs.Kinds.{InList, Function, PlanKind, number_p, TableScan, PartKind, FieldPart, EntryPart, PairPart, KeyPart, AggPart}
use Rattle.plan.specs.Kinds.{WinPart}
use Rattle.plan.specs.FieldSources.{role_p, gives_both, own}
use Rattle.plan.specs.declared.field_sources.Role.{Role}
use Rattle.plan.specs.declared.field_sources.Role.TheVariants.{NoPlan, Creates, Joins, Renames, Extends, Passes}
use Rattle.plan.specs.Schema.{same}
use Rattle.plan.specs.Syntax.{Name, nm, no_type, integer_type, boolean_type}

-- the first of a list, or what stands for it
unfoldable pub first : {A : Type 0} → A → List A → A
first d [] = d
first d (x ∷ xs) = x

-- a field of a schema, with the number of its type
pub record Fld : Type 0 where
  pub name : Name
  pub ty : ℕ

abbrev pub fld : Name → ℕ → Fld
fld n t = record { name = n; ty = t }

abbrev pub Schema : Type 0
Schema = List Fld

-- the schema with this place in the list
unfoldable pub input : ℕ → List Schema → Schema
input k [] = []
input zero (s ∷ ss) = s
input (suc k) (s ∷ ss) = input k ss

-- the name that a label has in p and q
abbrev pub name_of : Label → Name
name_of l = nm l.p l.q

-- ---- the type of an expression, by its own record and the schema it stands over

unfoldable pub type_in : Schema → Name → ℕ
type_in [] x = no_type
type_in (f ∷ s) x = cond (same f.name x) f.ty (type_in s x)

abbrev pub type_e : ExprKind → Schema → Label → ℕ
type_e Column s l = type_in s (name_of l)
type_e Integer s l = integer_type
type_e Boolean s l = boolean_type
type_e Null s l = l.p
type_e Binary s l = boolean_type
type_e Not s l = boolean_type
type_e Test s l = boolean_type
type_e Between s l = boolean_type
type_e InList s l = boolean_type
type_e Function s l = l.r

abbrev pub type_by : What → Schema → Label → ℕ
type_by (expr k) s l = type_e k s l
type_by (plan k) s l = no_type
type_by (part k) s l = no_type
type_by unknown s l = no_type

unfoldable pub type_of : Schema → Label → ℕ
type_of s l = type_by (what l) s l

-- the type of the first expression of a forest
unfoldable pub type_first : Schema → Forest → ℕ
type_first s none = no_type
type_first s (node l cs ns) = type_of s l

-- ---- the schema of a plan

-- the field that a part makes over the schema s: a scan's field, an entry's value, a count or an extreme, which are integers
abbrev pub made_q : PartKind → Schema → Label → Forest → Schema → Schema
made_q FieldPart s l cs rest = fld (name_of l) l.r ∷ rest
made_q EntryPart s l cs rest = fld (name_of l) (type_first s cs) ∷ rest
made_q PairPart s l cs rest = rest
made_q KeyPart s l cs rest = rest
made_q AggPart s l cs rest = fld (name_of l) integer_type ∷ rest
made_q WinPart s l cs rest = fld (name_of l) integer_type ∷ rest

abbrev pub schema_made_by : What → Schema → Label → Forest → Schema → Schema
schema_made_by (expr k) s l cs rest = rest
schema_made_by (plan k) s l cs rest = rest
schema_made_by (part k) s l cs rest = made_q k s l cs rest
schema_made_by unknown s l cs rest = rest

-- the fields that the children make
unfoldable pub made : Schema → Forest → Schema
made s none = []
made s (node l cs ns) = schema_made_by (what l) s l cs (made s ns)

unfoldable pub requalify : ℕ → Fld → Fld
requalify q f = fld (again f.name) f.ty
  where
    again : Name → Name
    again (nm r n) = nm q n

-- Inner, Left, Right and Full give both sides; semi and anti joins their own
unfoldable pub join_fields : ℕ → Schema → Schema → Schema
join_fields p l r = cond (gives_both Joins p) (l ++ r) (input (own Joins p) (l ∷ r ∷ []))

-- by a plan's role and its p, of the fields that its parts make and the schemas of its inputs; of no plan it is not asked
abbrev pub fields_by : Role → ℕ → Schema → List Schema → Schema
fields_by NoPlan p parts ins = input 0 ins
fields_by Creates p parts ins = parts
fields_by Joins p parts ins = join_fields p (input 0 ins) (input 1 ins)
fields_by Renames p parts ins = map (requalify p) (input 0 ins)
fields_by Extends p parts ins = input 0 ins ++ parts
fields_by Passes p parts ins = input 0 ins

-- the schema that the parts of a plan of this kind stand over: a scan's over none
abbrev pub parts_over : ℕ → List Schema → Schema
parts_over kind ins = cond (eqb kind (number_p TableScan)) [] (input 0 ins)

-- of a plan's label, its children and the schemas of its inputs
abbrev pub fields_p : PlanKind → Label → Forest → List Schema → Schema
fields_p k l cs ins = fields_by (role_p k) l.p (made (parts_over (number_p k) ins) cs) ins

abbrev pub inputs_by : What → Label → Forest → List Schema → List Schema → List Schema
inputs_by (expr k) l cs ins rest = rest
inputs_by (plan k) l cs ins rest = fields_p k l cs ins ∷ rest
inputs_by (part k) l cs ins rest = rest
inputs_by unknown l cs ins rest = rest

-- the schemas of the plans of a forest, in order
unfoldable pub inputs : Forest → List Schema
inputs none = []
inputs (node l cs ns) = inputs_by (what l) l cs (inputs cs) (inputs ns)

-- ---- the schema rule

-- the names of the fields
unfoldable pub names_in : Schema → List Name
names_in s = map (λ (f : Fld). f.name) s
