-- What a record asks of the types of its own expressions, as the code's enum.
use Rattle.std.specs.Prelude.{Bool, true, cond, List, ℕ, eqb, leb}
use Rattle.plan.specs.Kinds.{What, expr, plan, part, unknown, ExprKind, Column, Integer, Boolean, Null, Binary, Not, Test, Between, InList}
use Rattle.plan.specs.Kinds.{Function, PlanKind, TableScan, Filter, Projection, Join, SubqueryAlias, Union, Distinct, Sort, Repartition}
use Rattle.plan.specs.Kinds.{Limit, Aggregate, Window, PartKind, FieldPart, EntryPart, PairPart, KeyPart, AggPart, WinPart}
use Rattle.plan.specs.Syntax.{no_type, integer_type, or, is_not_null, count}
use Rattle.plan.specs.Trees.{op_number, test_number, agg_number}
use Rattle.check_types.specs.declared.operands.Demand.{Demand}
use Rattle.check_types.specs.declared.operands.Demand.TheVariants.{Nothing, Booleans, OneType, IntegerFirst}
use Rattle.check_fields.specs.Fields.{first}
use Rattle.check_fields.specs.Rules.{booleans, alike}

-- Count takes any type, Min and Max an integer
abbrev pub integer_or : ℕ → Demand
integer_or r = cond (eqb r (agg_number count)) Nothing IntegerFirst

abbrev pub demand_e : ExprKind → ℕ → Demand
demand_e Column p = Nothing
demand_e Integer p = Nothing
demand_e Boolean p = Nothing
demand_e Null p = Nothing
demand_e Binary p = cond (leb p (op_number or)) Booleans OneType
demand_e Not p = Booleans
demand_e Test p = cond (leb p (test_number is_not_null)) Nothing Booleans
demand_e Between p = OneType
demand_e InList p = OneType
demand_e Function p = Nothing

abbrev pub demand_p : PlanKind → Demand
demand_p TableScan = Booleans
demand_p Filter = Booleans
demand_p Projection = Nothing
demand_p Join = Booleans
demand_p SubqueryAlias = Nothing
demand_p Union = Nothing
demand_p Distinct = Nothing
demand_p Sort = Nothing
demand_p Repartition = Nothing
demand_p Limit = Nothing
demand_p Aggregate = Nothing
demand_p Window = Nothing

abbrev pub demand_q : PartKind → ℕ → Demand
demand_q FieldPart r = Nothing
demand_q EntryPart r = Nothing
demand_q PairPart r = OneType
demand_q KeyPart r = Nothing
demand_q AggPart r = integer_or r
demand_q WinPart r = integer_or r

abbrev pub demand_of : What → ℕ → ℕ → Demand
demand_of (expr k) p r = demand_e k p
demand_of (plan k) p r = demand_p k
demand_of (part k) p r = demand_q k r
demand_of unknown p r = Nothing

-- whether types are as asked
abbrev pub met : Demand → List ℕ → Bool
met Nothing ts = true
met Booleans ts = booleans ts
met OneType ts = alike ts
met IntegerFirst ts = eqb (first no_type ts) integer_type
