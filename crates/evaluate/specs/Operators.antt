-- What an operator makes of the values of its operands, by the numbers in its record.
use Rattle.std.specs.Prelude.{◌≡◌, true, List, [], ◌∷◌, ℕ, ◌-◌, eqb, get_or, drop}
use Rattle.image.specs.Tree.{Label, Tree}
use Rattle.plan.specs.Kinds as K
use Rattle.plan.specs.Kinds.{What, expr, what, what_of}
use Rattle.plan.specs.Lists.{any}
use Rattle.plan.specs.Read.{nth, ops, tests, expr_by, exprs_of}
use Rattle.plan.specs.Syntax.{boolean_type, no_type, Value, Expr, null, truth, eq, and, is_null}
use Rattle.plan.specs.Trees.{bit_of}
use Rattle.plan.specs.Values.{Right}
use Rattle.meaning.specs.Meaning.{is_t, is_n, compared, binary, not3, negate, tested, within, in_list}
use Rattle.evaluate.specs.declared.operands.Seen.{Seen}

-- the value of an operand; NULL where there is none
abbrev pub operand : ℕ → List Value → Value
operand i vs = get_or vs i null

-- of what a record is, with the word p; NULL where it is no operator
abbrev pub operated_by : What → ℕ → List Value → Value
operated_by (expr K.Binary) p vs = binary (nth and ops (p - 1)) (operand 0 vs) (operand 1 vs)
operated_by (expr K.Not) p vs = not3 (operand 0 vs)
operated_by (expr K.Test) p vs = truth (tested (nth is_null tests (p - 1)) (operand 0 vs))
operated_by (expr K.Between) p vs = negate (eqb p (bit_of true)) (within (operand 0 vs) (operand 1 vs) (operand 2 vs))
operated_by (expr K.InList) p vs = negate (eqb p (bit_of true)) (in_list (operand 0 vs) (drop 1 vs))
operated_by _ p vs = null

-- of the kind k
unfoldable pub operated : ℕ → ℕ → List Value → Value
operated k p vs = operated_by (what_of k) p vs

-- the type of what such a record is: boolean of an operator, its own of a function
abbrev pub type_by : What → Label → ℕ
type_by (expr K.Binary) l = boolean_type
type_by (expr K.Not) l = boolean_type
type_by (expr K.Test) l = boolean_type
type_by (expr K.Between) l = boolean_type
type_by (expr K.InList) l = boolean_type
type_by (expr K.Function) l = l.r
type_by _ l = no_type

unfoldable pub operated_type : Label → ℕ
operated_type l = type_by (what l) l

-- ---- operands, as the code sees them

-- how many, up to three
abbrev pub up_to3 : {A : Type 0} → List A → ℕ
up_to3 [] = 0
up_to3 (a ∷ []) = 1
up_to3 (a ∷ b ∷ []) = 2
up_to3 (a ∷ b ∷ d ∷ vs) = 3

-- the operands are vs
pub record Sees (s : Seen) (vs : List Value) : Type 0 where
  pub count : s.count ≡ up_to3 vs
  pub first : s.first.case ≡ operand 0 vs
  pub second : s.second.case ≡ operand 1 vs
  pub third : s.third.case ≡ operand 2 vs
  pub equal : s.equal ≡ any (λ v. is_t (compared eq (operand 0 vs) v)) (drop 1 vs)
  pub null : s.null ≡ any is_n (drop 1 vs)

-- what is seen is right
pub record SeesRight (s : Seen) : Type 0 where
  pub first : Right s.first
  pub second : Right s.second
  pub third : Right s.third

-- ---- the expression that a tree of records is

abbrev pub expr_in : Tree → Expr
expr_in t = expr_by (what t.label) t.label (exprs_of t.below)
