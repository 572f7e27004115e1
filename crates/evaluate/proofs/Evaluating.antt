-- The value of a record's expression, by the record's label and the values of its children; and its type.
--     at_column, at_literal, at_operator
--     type_column, type_literal, type_operator
-- Assumes nothing.
use mathlib.Core.Path.{◌≡◌, refl}
use Rattle.std.specs.Prelude.{Some, None}
use Prim.Native.Nat.{ℕ}
use lib.ListN.{drop}
use Rattle.image.specs.Tree.{Label}
use Rattle.plan.specs.Kinds as K
use Rattle.plan.specs.Kinds.{What, expr, plan, part, unknown, what, what_of, among}
use Rattle.plan.specs.Read.{signed, expr_by, head_e, tail_e}
use Rattle.plan.specs.Trees.{is_set}
use Rattle.plan.specs.Syntax.{Value, nm, Exprs, enil, econs}
use Rattle.plan.specs.Types.{Types, type_of_expr}
use Rattle.plan.specs.Values.{ValueRecord, integer, boolean, null_of, literal_at, literal_of}
use Rattle.plan.proofs.Rebuilt.{kind_e}
use Rattle.meaning.specs.Meaning.{Env, eval, evals}
use Rattle.rewrite.specs.RowTest.{no_functions}
use Rattle.evaluate.specs.Operators.{operand, operated_by, operated, type_by, operated_type}

module _ (ρ : Env) where
  abbrev pub value : Label → Exprs → Value
  value l es = eval no_functions ρ (expr_by (what l) l es)

  -- ---- children

  pub first_value : (es : Exprs) → eval no_functions ρ (head_e es) ≡ operand 0 (evals no_functions ρ es)
  unfolding eval
  first_value enil = refl
  first_value (econs x xs) = refl

  pub rest_values : (es : Exprs) → evals no_functions ρ (tail_e es) ≡ drop 1 (evals no_functions ρ es)
  unfolding eval
  rest_values enil = refl
  rest_values (econs x xs) = refl

  second_value : (es : Exprs) → eval no_functions ρ (head_e (tail_e es)) ≡ operand 1 (evals no_functions ρ es)
  unfolding eval
  second_value enil = refl
  second_value (econs x enil) = refl
  second_value (econs x (econs y ys)) = refl

  third_value : (es : Exprs) → eval no_functions ρ (head_e (tail_e (tail_e es))) ≡ operand 2 (evals no_functions ρ es)
  unfolding eval
  third_value enil = refl
  third_value (econs x enil) = refl
  third_value (econs x (econs y enil)) = refl
  third_value (econs x (econs y (econs z zs))) = refl

  -- ---- by the record's kind

  pub at_column : (l : Label) (es : Exprs) → l.kind ≡ 1 → value l es ≡ ρ (nm l.p l.q)
  unfolding eval what_of among
  at_column l es e = rw e

  literal_by : (w : What) (l : Label) (es : Exprs) (v : ValueRecord) → literal_at w l ≡ Some v → v.case ≡ eval no_functions ρ (expr_by w l es)
  unfolding eval
  literal_by (expr K.Integer) l es v h = let e : integer (signed l.lo l.hi) ≡ v = cc in rw (← e)
  literal_by (expr K.Boolean) l es v h = let e : boolean (is_set l.p) ≡ v = cc in rw (← e)
  literal_by (expr K.Null) l es v h = let e : null_of l.p ≡ v = cc in rw (← e)
  literal_by (expr K.Column) l es v h = cc
  literal_by (expr K.Binary) l es v h = cc
  literal_by (expr K.Not) l es v h = cc
  literal_by (expr K.Test) l es v h = cc
  literal_by (expr K.Between) l es v h = cc
  literal_by (expr K.InList) l es v h = cc
  literal_by (expr K.Function) l es v h = cc
  literal_by (plan k) l es v h = cc
  literal_by (part k) l es v h = cc
  literal_by unknown l es v h = cc

  pub at_literal : (l : Label) (es : Exprs) (v : ValueRecord) → literal_of l ≡ Some v → v.case ≡ value l es
  unfolding literal_of
  at_literal l es v h = literal_by (what l) l es v h

  operator_by : (w : What) (l : Label) (es : Exprs) → (w ≡ expr K.Column → ⊥) → literal_at w l ≡ None
      → operated_by w l.p (evals no_functions ρ es) ≡ eval no_functions ρ (expr_by w l es)
  unfolding eval
  operator_by (expr K.Column) l es n h = absurd (n refl)
  operator_by (expr K.Integer) l es n h = cc
  operator_by (expr K.Boolean) l es n h = cc
  operator_by (expr K.Null) l es n h = cc
  operator_by (expr K.Binary) l es n h = rw (first_value es, second_value es)
  operator_by (expr K.Not) l es n h = rw (first_value es)
  operator_by (expr K.Test) l es n h = rw (first_value es)
  operator_by (expr K.Between) l es n h = rw (first_value es, second_value es, third_value es)
  operator_by (expr K.InList) l es n h = rw (first_value es, rest_values es)
  operator_by (expr K.Function) l es n h = refl
  operator_by (plan k) l es n h = refl
  operator_by (part k) l es n h = refl
  operator_by unknown l es n h = refl

  pub at_operator : (l : Label) (es : Exprs) → (l.kind ≡ 1 → ⊥) → literal_of l ≡ None → operated l.kind l.p (evals no_functions ρ es) ≡ value l es
  unfolding operated literal_of
  at_operator l es n h = operator_by (what l) l es (λ e. n (kind_e l K.Column e)) h

module _ (τ : Types) (l : Label) (es : Exprs) where
  abbrev typed : ℕ
  typed = type_of_expr τ (expr_by (what l) l es)

  pub type_column : l.kind ≡ 1 → τ (nm l.p l.q) ≡ typed
  unfolding type_of_expr what_of among
  type_column e = rw e

  type_literal_by : (w : What) (v : ValueRecord) → literal_at w l ≡ Some v → v.ty ≡ type_of_expr τ (expr_by w l es)
  unfolding type_of_expr
  type_literal_by (expr K.Integer) v h = let e : integer (signed l.lo l.hi) ≡ v = cc in rw (← e)
  type_literal_by (expr K.Boolean) v h = let e : boolean (is_set l.p) ≡ v = cc in rw (← e)
  type_literal_by (expr K.Null) v h = let e : null_of l.p ≡ v = cc in rw (← e)
  type_literal_by (expr K.Column) v h = cc
  type_literal_by (expr K.Binary) v h = cc
  type_literal_by (expr K.Not) v h = cc
  type_literal_by (expr K.Test) v h = cc
  type_literal_by (expr K.Between) v h = cc
  type_literal_by (expr K.InList) v h = cc
  type_literal_by (expr K.Function) v h = cc
  type_literal_by (plan k) v h = cc
  type_literal_by (part k) v h = cc
  type_literal_by unknown v h = cc

  pub type_literal : (v : ValueRecord) → literal_of l ≡ Some v → v.ty ≡ typed
  unfolding literal_of
  type_literal v h = type_literal_by (what l) v h

  type_operator_by : (w : What) → (w ≡ expr K.Column → ⊥) → literal_at w l ≡ None → type_by w l ≡ type_of_expr τ (expr_by w l es)
  unfolding type_of_expr
  type_operator_by (expr K.Column) n h = absurd (n refl)
  type_operator_by (expr K.Integer) n h = cc
  type_operator_by (expr K.Boolean) n h = cc
  type_operator_by (expr K.Null) n h = cc
  type_operator_by (expr K.Binary) n h = refl
  type_operator_by (expr K.Not) n h = refl
  type_operator_by (expr K.Test) n h = refl
  type_operator_by (expr K.Between) n h = refl
  type_operator_by (expr K.InList) n h = refl
  type_operator_by (expr K.Function) n h = refl
  type_operator_by (plan k) n h = refl
  type_operator_by (part k) n h = refl
  type_operator_by unknown n h = refl

  pub type_operator : (l.kind ≡ 1 → ⊥) → literal_of l ≡ None → operated_type l ≡ typed
  unfolding operated_type literal_of
  type_operator n h = type_operator_by (what l) (λ e. n (kind_e l K.Column e)) h
