-- What the code's values of comparisons stand for.
use Rattle.std.specs.Prelude.{Bool, true, false, List, ℕ, ◌<◌, ◌≡◌, ◌-◌, length, get_or, ℤ, Option, Some, None}
use Rattle.std.proofs.Math.Option as O
use Rattle.std.proofs.Math.Option.{none, some}
use Rattle.std.specs.Int.Signed.{lt_z}
use Rattle.image.specs.Tree.{Label}
use Rattle.plan.specs.Kinds as K
use Rattle.plan.specs.Kinds.{What, expr, what}
use Rattle.plan.specs.Syntax as S
use Rattle.plan.specs.Syntax.{Expr, nm, Cmp, Op, and, cmp}
use Rattle.plan.specs.Read.{nth, ops}
use Rattle.plan.specs.Values.{ValueRecord, null_of, literal_of, literal?}
use Rattle.plan.specs.WordValues.{cmp_of}
use Rattle.plan.specs.declared.words.Comparison.{Comparison}
use Rattle.conjuncts.specs.Items.{FALSE}
use Rattle.rewrite.specs.SimplifyPredicates.{Rel, same_as, above, below, Side, Item, rel_of, make, or_item, view, gt_z}
use Rattle.simplify_expressions.specs.declared.simplify_predicates.Name.{Name}
use Rattle.simplify_expressions.specs.declared.simplify_predicates.Relation.{Relation}
use Rattle.simplify_expressions.specs.declared.simplify_predicates.Relation.TheVariants.{SameAs, Above, Below}
use Rattle.simplify_expressions.specs.declared.simplify_predicates.Bound.{Bound}
use Rattle.simplify_expressions.specs.declared.simplify_predicates.End.{End}
use Rattle.simplify_expressions.specs.declared.simplify_predicates.End.TheVariants.{Lower, Upper}

abbrev pub named : Name → S.Name
named x = nm x.q x.n

-- ---- operands

abbrev pub column_at : What → Label → O.Option S.Name
column_at (expr K.Column) l = some (nm l.p l.q)
column_at _ l = none

-- the column that a record is
unfoldable pub column_of : Label → O.Option S.Name
column_of l = column_at (what l) l

-- the literal that a record is
abbrev pub value_in : Label → O.Option ValueRecord
value_in l = literal? (literal_of l)

-- ---- comparisons

-- what an operator compares by, if its record is a BinaryExpr
abbrev pub comparison_at : What → Op → O.Option Cmp
comparison_at (expr K.Binary) (cmp c) = some c
comparison_at _ o = none

-- of a record
unfoldable pub comparison_of : Label → O.Option Cmp
comparison_of l = comparison_at (what l) (nth and ops (l.p - 1))

abbrev pub compares : Option Comparison → O.Option Cmp
compares (Some c) = some (cmp_of c)
compares None = none

abbrev pub relation_in : Relation → Rel
relation_in SameAs = same_as
relation_in (Above s) = above s
relation_in (Below s) = below s

abbrev pub relation_of : Option Relation → O.Option Rel
relation_of (Some r) = some (relation_in r)
relation_of None = none

abbrev pub item_of : Bound → Item
item_of b = record { key = named b.column; rel = relation_in b.relation; lit = b.value; flipped = b.flipped }

abbrev pub seen : Option Bound → O.Option Item
seen (Some b) = some (item_of b)
seen None = none

-- what the comparison of two operands is, by their records
unfoldable pub matched_in : Cmp → Label → Label → O.Option Item
matched_in o a b = or_item (make false (rel_of false o) (column_of a) (value_in b)) (make true (rel_of true o) (column_of b) (value_in a))

-- ---- sides

abbrev pub strict_r : Rel → Bool
strict_r same_as = false
strict_r (above s) = s
strict_r (below s) = s

-- a bound without its column
abbrev pub side_of : Bound → Side
side_of b = record { strict = strict_r (relation_in b.relation); lit = b.value; flipped = b.flipped }

-- the side that an item is; anything where there is none
unfoldable pub side_of? : O.Option Item → Side
side_of? none = record { strict = false; lit = null_of 0; flipped = false }
side_of? (some i) = record { strict = strict_r i.rel; lit = i.lit; flipped = i.flipped }

-- the side that a comparison is; anything for another expression
abbrev pub side_in : Expr → Side
side_in e = side_of? (view e)

-- for lower bounds the greater is the stronger, for upper ones the lesser
abbrev pub past_of : End → ℤ → ℤ → Bool
past_of Lower = lt_z
past_of Upper = gt_z

-- each expression of a list is what its side is written as
abbrev pub Spelled : (Side → Expr) → List Expr → Type 0
Spelled spell es = (i : ℕ) → i < length es → spell (side_in (get_or es i FALSE)) ≡ get_or es i FALSE
