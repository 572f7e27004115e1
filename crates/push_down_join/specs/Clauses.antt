-- What the code says of a clause: that there is one, or that there is none.
use Rattle.std.specs.Prelude as P
use Rattle.std.specs.Prelude.{◌≡◌, Bool, true, false, cond, ℕ, eqb}
use Rattle.std.proofs.Math.Option.{Option, none, some}
use Rattle.image.specs.Subtrees.{tree_of}
use Rattle.image.specs.declared.trees.Stretch.{Stretch}
use Rattle.image.specs.Tree.{Label}
use Rattle.plan.specs.Kinds.{number_e, Binary}
use Rattle.plan.specs.Syntax.{Name, Expr, and, or}
use Rattle.plan.specs.Trees.{op_number, label_e, expr_tree}
use Rattle.rewrite.specs.PushDownFilter.{extract_or_clause, is_or}
use Rattle.push_down_base.specs.Inputs.{Two}
use Rattle.push_down_join.specs.declared.extract_or_clause.Connective.{Connective}
use Rattle.push_down_join.specs.declared.extract_or_clause.Connective.TheVariants.{And, Or}

-- the operator with this number, if it is And or Or
abbrev pub connective : ℕ → P.Option Connective
connective p = cond (eqb p (op_number and)) (P.Some And) (cond (eqb p (op_number or)) (P.Some Or) P.None)

-- the operator of an And or an Or, none of any other record
unfoldable pub operator_of : Label → P.Option Connective
operator_of l = cond (eqb l.kind (number_e Binary)) (connective l.p) P.None

-- there is one
abbrev pub yields : Option Expr → Bool
yields none = false
yields (some e) = true

-- an operand of an Or is part of its clause, one of an And if it yields
abbrev pub kept : Connective → Option Expr → Bool
kept And x = yields x
kept Or x = true

-- the clause of a conjunct that is an OR at its top
abbrev pub or_clause : (Name → Bool) → Expr → Option Expr
or_clause c e = cond (is_or e) (extract_or_clause c e) none

-- ---- taken apart

-- a and b are the operands of t, an And or an Or
pub record Apart {N : ℕ} (t : Stretch N) (op : Connective) (a b : Stretch N) : Type 0 where
  pub is : P.Some op ≡ operator_of (tree_of t).label
  pub two : Two t a b

-- the operator of t and its operands, or an expression t is neither an And nor an Or
abbrev pub Operands : {N : ℕ} → Stretch N → P.Option (Connective × Stretch N × Stretch N) → Type 0
Operands t P.None = (e : Expr) → tree_of t ≡ expr_tree e → operator_of (label_e e) ≡ P.None
Operands t (P.Some p) = Apart t p.0 p.1 p.2
