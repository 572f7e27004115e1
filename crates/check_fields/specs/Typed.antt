-- Types as the code tells them from one record.
use Rattle.std.specs.Prelude.{ℕ}
use Rattle.image.specs.Tree.{Label, Forest}
use Rattle.plan.specs.Kinds.{What, expr, plan, part, unknown, ExprKind, Column, Integer, Boolean, Null, Binary, Not, Test, Between, InList}
use Rattle.plan.specs.Kinds.{Function, PartKind, FieldPart, EntryPart, PairPart, KeyPart, AggPart, WinPart}
use Rattle.plan.specs.Syntax.{no_type, integer_type, boolean_type}
use Rattle.check_fields.specs.Fields.{Schema, type_first}

-- the type of an expression that is no column
abbrev pub plain_e : ExprKind → ℕ → ℕ → ℕ
plain_e Column p r = no_type
plain_e Integer p r = integer_type
plain_e Boolean p r = boolean_type
plain_e Null p r = p
plain_e Binary p r = boolean_type
plain_e Not p r = boolean_type
plain_e Test p r = boolean_type
plain_e Between p r = boolean_type
plain_e InList p r = boolean_type
plain_e Function p r = r

abbrev pub plain_type : What → ℕ → ℕ → ℕ
plain_type (expr k) p r = plain_e k p r
plain_type (plan k) p r = no_type
plain_type (part k) p r = no_type
plain_type unknown p r = no_type

-- the type of the field that a part makes over the schema d
abbrev pub part_type_q : PartKind → Schema → Label → Forest → ℕ
part_type_q FieldPart d l cs = l.r
part_type_q EntryPart d l cs = type_first d cs
part_type_q PairPart d l cs = no_type
part_type_q KeyPart d l cs = no_type
part_type_q AggPart d l cs = integer_type
part_type_q WinPart d l cs = integer_type

abbrev pub part_type : What → Schema → Label → Forest → ℕ
part_type (expr k) d l cs = no_type
part_type (plan k) d l cs = no_type
part_type (part k) d l cs = part_type_q k d l cs
part_type unknown d l cs = no_type
