-- Record (2): the range of each word of a record, by its kind. An unused word is 0; a name is not.
use Rattle.std.specs.Prelude.{Bool, true, false, cond, ℕ, leb, ◌≡◌}
use Rattle.image.specs.Tree.{Label, Forest, none, node}
use Rattle.image.specs.Limits.{max_word}
use Rattle.plan.specs.Lists.{◌&◌}
use Rattle.plan.specs.Syntax.{integer_type, boolean_type}
use Rattle.plan.specs.Kinds.{What, expr, plan, part, unknown, what, ExprKind, Column, Integer, Boolean, Null, Binary, Not, Test}
use Rattle.plan.specs.Kinds.{Between, InList, Function, PlanKind, TableScan, Filter, Projection, Join, SubqueryAlias, Union, Distinct}
use Rattle.plan.specs.Kinds.{Sort, Repartition, Limit, Aggregate, Window, PartKind, FieldPart, EntryPart, PairPart, KeyPart, AggPart}
use Rattle.plan.specs.Kinds.{WinPart}
use Rattle.plan.specs.Trees.{has_fetch}
-- a range, and the ranges of the words p, q, r, lo, hi: the structs of the code
pub use Rattle.image.specs.declared.ranges.Range.{Range}
pub use Rattle.image.specs.declared.ranges.WordRow.{WordRow}

infixl 20 ◌to◌
abbrev pub ◌to◌ : ℕ → ℕ → Range
a to b = record { low = a; high = b }

abbrev pub row : Range → Range → Range → Range → Range → WordRow
row p q r lo hi = record { p = p; q = q; r = r; lo = lo; hi = hi }

abbrev pub any_word : Range
any_word = 0 to max_word

abbrev pub unused : Range
unused = 0 to 0

-- a name, or the qualifier of an alias
abbrev pub name : Range
name = 1 to max_word

abbrev pub bit : Range
bit = 0 to 1

abbrev pub type : Range
type = integer_type to boolean_type

abbrev pub row_e : ExprKind → WordRow
row_e Column = row any_word name unused unused unused
row_e Integer = row unused unused unused any_word any_word
row_e Boolean = row bit unused unused unused unused
row_e Null = row type unused unused unused unused
row_e Binary = row (1 to 8) unused unused unused unused
row_e Not = row unused unused unused unused unused
row_e Test = row (1 to 8) unused unused unused unused
row_e Between = row bit unused unused unused unused
row_e InList = row bit unused unused unused unused
row_e Function = row any_word (0 to 3) type unused unused

-- by p, which says whether a Sort has a fetch
abbrev pub row_p : PlanKind → ℕ → WordRow
row_p TableScan p = row any_word unused unused unused unused
row_p Filter p = row unused unused unused unused unused
row_p Projection p = row unused unused unused unused unused
row_p Join p = row (1 to 8) unused unused unused unused
row_p SubqueryAlias p = row name unused unused unused unused
row_p Union p = row unused unused unused unused unused
row_p Distinct p = row unused unused unused unused unused
row_p Sort p = row bit unused unused (cond (has_fetch p) any_word unused) unused
row_p Repartition p = row unused unused unused unused unused
row_p Limit p = row unused unused unused any_word any_word
row_p Aggregate p = row unused unused unused unused unused
row_p Window p = row unused unused unused unused unused

abbrev pub row_q : PartKind → WordRow
row_q FieldPart = row any_word name type bit unused
row_q EntryPart = row any_word name unused unused unused
row_q PairPart = row unused unused unused unused unused
row_q KeyPart = row bit unused unused unused unused
row_q AggPart = row any_word name (1 to 3) unused unused
row_q WinPart = row any_word name (1 to 3) unused unused

unfoldable pub in_range : Range → ℕ → Bool
in_range r x = leb r.low x & leb x r.high

unfoldable pub row_fits : WordRow → Label → Bool
row_fits w l = in_range w.p l.p & in_range w.q l.q & in_range w.r l.r & in_range w.lo l.lo & in_range w.hi l.hi

abbrev pub words_by : What → Label → Bool
words_by (expr k) l = row_fits (row_e k) l
words_by (plan k) l = row_fits (row_p k l.p) l
words_by (part k) l = row_fits (row_q k) l
words_by unknown l = false

-- the rule of a record's words
unfoldable pub words_ok : Label → Bool
words_ok l = words_by (what l) l

-- all records have the words of their kinds
abbrev pub Worded : Forest → Type 0
Worded none = Unit {0}
Worded (node l cs ns) = (words_ok l ≡ true) × Worded cs × Worded ns
