-- The kinds of records, with their numbers.
use Rattle.std.specs.Prelude.{Bool, true, false, cond, List, [], ◌∷◌, ℕ, eqb}
use Rattle.image.specs.Tree.{Label}
-- ---- the kinds, and what a record is: the enums of the code

pub use Rattle.image.specs.declared.kinds.ExprKind.{ExprKind}
pub use Rattle.image.specs.declared.kinds.ExprKind.TheVariants.{Column, Integer, Boolean, Null, Binary, Not, Test, Between, InList, Function}
pub use Rattle.image.specs.declared.kinds.PlanKind.{PlanKind}
pub use Rattle.image.specs.declared.kinds.PlanKind.TheVariants.{TableScan, Filter, Projection, Join, SubqueryAlias, Union, Distinct, Sort}
pub use Rattle.image.specs.declared.kinds.PlanKind.TheVariants.{Repartition, Limit, Aggregate, Window}
pub use Rattle.image.specs.declared.kinds.PartKind.{PartKind}
pub use Rattle.image.specs.declared.kinds.PartKind.TheVariants.{FieldPart, EntryPart, PairPart, KeyPart, AggPart, WinPart}
pub use Rattle.image.specs.declared.kinds.What.{What}
pub use Rattle.image.specs.declared.kinds.What.TheVariants.{Expr as expr, Plan as plan, Part as part, Unknown as unknown}

abbrev pub number_e : ExprKind → ℕ
number_e Column = 1
number_e Integer = 2
number_e Boolean = 3
number_e Null = 4
number_e Binary = 5
number_e Not = 6
number_e Test = 7
number_e Between = 8
number_e InList = 9
number_e Function = 10

abbrev pub number_p : PlanKind → ℕ
number_p TableScan = 32
number_p Filter = 33
number_p Projection = 34
number_p Join = 35
number_p SubqueryAlias = 36
number_p Union = 37
number_p Distinct = 38
number_p Sort = 39
number_p Repartition = 40
number_p Limit = 41
number_p Aggregate = 42
number_p Window = 43

abbrev pub number_q : PartKind → ℕ
number_q FieldPart = 48
number_q EntryPart = 49
number_q PairPart = 50
number_q KeyPart = 51
number_q AggPart = 52
number_q WinPart = 53

-- a kind that is not known has no number; 0 is no kind's
abbrev pub number_of : What → ℕ
number_of (expr k) = number_e k
number_of (plan k) = number_p k
number_of (part k) = number_q k
number_of unknown = 0

abbrev pub kinds : List What
kinds =
    expr Column ∷ expr Integer ∷ expr Boolean ∷ expr Null ∷ expr Binary ∷ expr Not ∷ expr Test ∷ expr Between ∷ expr InList ∷ expr Function
    ∷ plan TableScan ∷ plan Filter ∷ plan Projection ∷ plan Join ∷ plan SubqueryAlias ∷ plan Union ∷ plan Distinct ∷ plan Sort
    ∷ plan Repartition ∷ plan Limit ∷ plan Aggregate ∷ plan Window
    ∷ part FieldPart ∷ part EntryPart ∷ part PairPart ∷ part KeyPart ∷ part AggPart ∷ part WinPart ∷ []

unfoldable pub among : ℕ → List What → What
among n [] = unknown
among n (w ∷ ws) = let rest = among n ws in cond (eqb n (number_of w)) w rest

-- the kind with this number
unfoldable pub what_of : ℕ → What
what_of n = among n kinds

abbrev pub what : Label → What
what l = what_of l.kind

-- ---- which sort of record

abbrev pub expr_w : What → Bool
expr_w (expr k) = true
expr_w (plan k) = false
expr_w (part k) = false
expr_w unknown = false

abbrev pub plan_w : What → Bool
plan_w (expr k) = false
plan_w (plan k) = true
plan_w (part k) = false
plan_w unknown = false

abbrev pub part_w : What → Bool
part_w (expr k) = false
part_w (plan k) = false
part_w (part k) = true
part_w unknown = false

abbrev pub is_expr : Label → Bool
is_expr l = expr_w (what l)

abbrev pub is_plan : Label → Bool
is_plan l = plan_w (what l)

-- the label has just this kind
abbrev pub is_kind : What → Label → Bool
is_kind w l = eqb l.kind (number_of w)
