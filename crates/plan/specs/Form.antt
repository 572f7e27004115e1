-- Form (5): the children of each kind of record, and the length of lists.
use Rattle.std.specs.Prelude.{Bool, true, false, not, cond, ℕ, ◌+◌, eqb, leb}
use Rattle.image.specs.Tree.{Label, Forest, none, node, Tree}
use Rattle.image.specs.Limits.{max_list}
use Rattle.image.specs.Lowest.{Found, or_else, unless, lowest, alone}
use Rattle.plan.specs.Syntax.{and}
use Rattle.plan.specs.Trees.{op_number}
use Rattle.plan.specs.Lists.{◌&◌}
use Rattle.plan.specs.Kinds.{What, expr, plan, part, unknown, what, is_expr, is_plan, is_kind, ExprKind, Column, Integer, Boolean, Null}
use Rattle.plan.specs.Kinds.{Binary, Not, Test, Between, InList, Function, PlanKind, TableScan, Filter, Projection, Join}
use Rattle.plan.specs.Kinds.{SubqueryAlias, Union, Distinct, Sort, Repartition, Limit, Aggregate, Window, PartKind, FieldPart}
use Rattle.plan.specs.Kinds.{EntryPart, PairPart, KeyPart, AggPart, WinPart}

-- ---- patterns of children

-- no children are left
unfoldable pub end : Forest → Bool
end none = true
end (node l cs ns) = false

-- one of a sort, then the rest
unfoldable pub one : (Label → Bool) → (Forest → Bool) → Forest → Bool
one is rest none = false
one is rest (node l cs ns) = is l & rest ns

-- what is left after all in front that are of a sort
unfoldable pub past : (Label → Bool) → Forest → Forest
past is none = none
past is (node l cs ns) = cond (is l) (past is ns) (node l cs ns)

-- any number of a sort, then the rest
abbrev pub many : (Label → Bool) → (Forest → Bool) → Forest → Bool
many is rest f = rest (past is f)

-- one of a sort or none, then the end
unfoldable pub perhaps : (Label → Bool) → Forest → Bool
perhaps is none = true
perhaps is (node l cs ns) = is l & end ns

abbrev pub children_e : ExprKind → Forest → Bool
children_e Column f = end f
children_e Integer f = end f
children_e Boolean f = end f
children_e Null f = end f
children_e Binary f = one is_expr (one is_expr end) f
children_e Not f = one is_expr end f
children_e Test f = one is_expr end f
children_e Between f = one is_expr (one is_expr (one is_expr end)) f
children_e InList f = one is_expr (one is_expr (many is_expr end)) f
children_e Function f = many is_expr end f

abbrev pub children_p : PlanKind → Forest → Bool
children_p TableScan f = many (is_kind (part FieldPart)) (many is_expr end) f
children_p Filter f = one is_expr (one is_plan end) f
children_p Projection f = one (is_kind (part EntryPart)) (many (is_kind (part EntryPart)) (one is_plan end)) f
children_p Join f = one is_plan (one is_plan (many (is_kind (part PairPart)) (perhaps is_expr))) f
children_p SubqueryAlias f = one is_plan end f
children_p Union f = one is_plan (one is_plan (many is_plan end)) f
children_p Distinct f = one is_plan end f
children_p Sort f = many (is_kind (part KeyPart)) (one is_plan end) f
children_p Repartition f = one is_plan end f
children_p Limit f = one is_plan end f
children_p Aggregate f = many (is_kind (part EntryPart)) (many (is_kind (part AggPart)) (one is_plan end)) f & not (one is_plan end f)
children_p Window f = one (is_kind (part WinPart)) (many (is_kind (part WinPart)) (one is_plan end)) f

abbrev pub children_q : PartKind → Forest → Bool
children_q FieldPart f = end f
children_q EntryPart f = one is_expr end f
children_q PairPart f = one is_expr (one is_expr end) f
children_q KeyPart f = one is_expr end f
children_q AggPart f = one is_expr end f
children_q WinPart f = one is_expr (many (is_kind (expr Column)) end) f

abbrev pub children_by : What → Forest → Bool
children_by (expr k) f = children_e k f
children_by (plan k) f = children_p k f
children_by (part k) f = children_q k f
children_by unknown f = false

-- ---- lists

-- an And of two expressions; any other And is refused itself, and is not split
unfoldable pub is_and : Label → Forest → Bool
is_and l cs = is_kind (expr Binary) l & eqb l.p (op_number and) & one is_expr (one is_expr end) cs

-- the conjuncts of all expressions of the forest
unfoldable pub conjuncts : Forest → ℕ
conjuncts none = 0
conjuncts (node l cs ns) = cond (is_expr l) (cond (is_and l cs) (conjuncts cs) 1) 0 + conjuncts ns

-- how many expressions are in the forest
unfoldable pub exprs_in : Forest → ℕ
exprs_in none = 0
exprs_in (node l cs ns) = cond (is_expr l) 1 0 + exprs_in ns

-- the list of a plan: the filters of a scan, the conjuncts of a Filter's or a join's one expression
abbrev pub list_of : PlanKind → Forest → ℕ
list_of TableScan f = exprs_in f
list_of Filter f = conjuncts f
list_of Projection f = 0
list_of Join f = conjuncts f
list_of SubqueryAlias f = 0
list_of Union f = 0
list_of Distinct f = 0
list_of Sort f = 0
list_of Repartition f = 0
list_of Limit f = 0
list_of Aggregate f = 0
list_of Window f = 0

abbrev pub list_by : What → Forest → ℕ
list_by (expr k) f = 0
list_by (plan k) f = list_of k f
list_by (part k) f = 0
list_by unknown f = 0

-- the rule of a record's children
unfoldable pub form_ok : Label → Forest → Bool
form_ok l cs = children_by (what l) cs & leb (list_by (what l) cs) max_list

-- the root is a plan, and every record has the children of its kind: the lowest record that breaks this
unfoldable pub bad_form : Tree → Found
bad_form t = or_else (unless (is_plan t.label) 0) (lowest {C = Unit {0}} (λ c l cs. form_ok l cs) (λ c l cs. (c, c)) tt tt 0 (alone t))
