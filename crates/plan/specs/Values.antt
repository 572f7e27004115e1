-- What the code's value records stand for.
use Rattle.std.specs.Prelude.{ℕ, ◌≡◌, Bool, true, false, not, eqb, ℤ, pos, Option, Some, None}
use Rattle.std.proofs.Math.Option as O
use Rattle.image.specs.Tree.{Label}
use Rattle.plan.specs.Kinds as K
use Rattle.plan.specs.Syntax as S
use Rattle.plan.specs.Read.{signed}
use Rattle.plan.specs.Trees.{is_set}
use Rattle.plan.specs.Kinds.{What, expr, what}
use Rattle.plan.specs.declared.values.Value.{Value}

-- the code's value record: a type, and the case inside
abbrev pub ValueRecord : Type 0
ValueRecord = Value

-- an integer, a boolean, a NULL of a type
abbrev pub integer : ℤ → ValueRecord
integer z = record { ty = S.integer_type; case = S.int z }

abbrev pub boolean : Bool → ValueRecord
boolean b = record { ty = S.boolean_type; case = S.truth b }

abbrev pub null_of : ℕ → ValueRecord
null_of t = record { ty = t; case = S.null }

-- whether a value is NULL
abbrev pub is_n : S.Value → Bool
is_n S.null = true
is_n (S.int z) = false
is_n (S.truth b) = false

-- the number of its type: 0 of NULL
abbrev pub kind_of : S.Value → ℕ
kind_of S.null = S.no_type
kind_of (S.int z) = S.integer_type
kind_of (S.truth b) = S.boolean_type

-- where it stands in the order of its type: FALSE below TRUE
abbrev pub code : S.Value → ℤ
code S.null = pos 0
code (S.int z) = z
code (S.truth false) = pos 0
code (S.truth true) = pos 1

-- whether type and case agree: a truth is of type boolean, an integer of another, a NULL of any
abbrev pub agrees : ℕ → S.Value → Bool
agrees t S.null = true
agrees t (S.int z) = not (eqb t S.boolean_type)
agrees t (S.truth b) = eqb t S.boolean_type

-- a record that is right
abbrev pub Right : ValueRecord → Type 0
Right v = agrees v.ty v.case ≡ true

-- a record that is the value v, of the type t
pub record Valued (r : ValueRecord) (t : ℕ) (v : S.Value) : Type 0 where
  pub type : r.ty ≡ t
  pub value : r.case ≡ v

-- the literal expression of a type and a case
abbrev pub literal_by : ℕ → S.Value → S.Expr
literal_by t S.null = S.nul t
literal_by t (S.int z) = S.num z
literal_by t (S.truth b) = S.bool b

abbrev pub literal_is : ValueRecord → S.Expr
literal_is v = literal_by v.ty v.case

-- the literal that a record of this kind is: an integer, a boolean or a NULL
abbrev pub literal_at : What → Label → Option ValueRecord
literal_at (expr K.Integer) l = Some (integer (signed l.lo l.hi))
literal_at (expr K.Boolean) l = Some (boolean (is_set l.p))
literal_at (expr K.Null) l = Some (null_of l.p)
literal_at _ l = None

unfoldable pub literal_of : Label → Option ValueRecord
literal_of l = literal_at (what l) l

-- the literal that an expression is
unfoldable pub literal_in : S.Expr → Option ValueRecord
literal_in (S.num z) = Some (integer z)
literal_in (S.bool b) = Some (boolean b)
literal_in (S.nul t) = Some (null_of t)
literal_in _ = None

-- as the definitions of the rewrite take it
unfoldable pub literal? : Option ValueRecord → O.Option ValueRecord
literal? (Some v) = O.some v
literal? None = O.none
