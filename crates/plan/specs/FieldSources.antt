-- Where a plan has its fields from, by its kind.
use Rattle.std.specs.Prelude.{Bool, true, false, cond, ◌&&◌, ◌||◌, ℕ, eqb, leb}
use Rattle.plan.specs.Kinds.{What, expr, plan, part, unknown, PlanKind, TableScan, Filter, Projection, Join, SubqueryAlias, Union}
use Rattle.plan.specs.Kinds.{Distinct, Sort, Repartition, Limit, Aggregate, Window, PartKind, FieldPart, EntryPart, PairPart, KeyPart}
use Rattle.plan.specs.Kinds.{AggPart, WinPart}
use Rattle.plan.specs.Syntax.{full, right_semi, right_anti}
use Rattle.plan.specs.Trees.{join_number}
use Rattle.plan.specs.declared.field_sources.Role.{Role}
use Rattle.plan.specs.declared.field_sources.Role.TheVariants.{NoPlan, Creates, Joins, Renames, Extends, Passes}

-- whether a part makes a field
abbrev pub makes_q : PartKind → Bool
makes_q FieldPart = true
makes_q EntryPart = true
makes_q PairPart = false
makes_q KeyPart = false
makes_q AggPart = true
makes_q WinPart = true

abbrev pub makes : What → Bool
makes (expr k) = false
makes (plan k) = false
makes (part k) = makes_q k
makes unknown = false

-- where a plan has its fields from
abbrev pub role_p : PlanKind → Role
role_p TableScan = Creates
role_p Filter = Passes
role_p Projection = Creates
role_p Join = Joins
role_p SubqueryAlias = Renames
role_p Union = Passes
role_p Distinct = Passes
role_p Sort = Passes
role_p Repartition = Passes
role_p Limit = Passes
role_p Aggregate = Creates
role_p Window = Extends

abbrev pub role : What → Role
role (expr k) = NoPlan
role (plan k) = role_p k
role (part k) = NoPlan
role unknown = NoPlan

-- its parts make all its fields
abbrev pub creates : Role → Bool
creates NoPlan = false
creates Creates = true
creates Joins = false
creates Renames = false
creates Extends = false
creates Passes = false

-- they are its inputs', as a join's
abbrev pub joins : Role → Bool
joins NoPlan = false
joins Creates = false
joins Joins = true
joins Renames = false
joins Extends = false
joins Passes = false

-- its fields get its qualifier
abbrev pub renames : Role → Bool
renames NoPlan = false
renames Creates = false
renames Joins = false
renames Renames = true
renames Extends = false
renames Passes = false

-- behind the fields of its input come those of its parts
abbrev pub extends : Role → Bool
extends NoPlan = false
extends Creates = false
extends Joins = false
extends Renames = false
extends Extends = true
extends Passes = false

-- behind the fields of its first input come those of its second: a join that is no semi or anti join
abbrev pub gives_both : Role → ℕ → Bool
gives_both r p = joins r && leb p (join_number full)

-- the input whose fields come first: of a semi or anti join its own side
abbrev pub own : Role → ℕ → ℕ
own r p = cond (joins r && (eqb p (join_number right_semi) || eqb p (join_number right_anti))) 1 0
