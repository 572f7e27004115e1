-- Laws of value records that are right.
--     right_literal   the record of a literal is right
--     right_null, valued_null     a NULL
-- Assumes nothing.
use mathlib.Core.Path.{◌≡◌, refl}
use mathlib.Core.Bool.{Bool, true}
use Prim.Native.Nat.{ℕ}
use Rattle.std.specs.Prelude.{Option, Some, None}
use Rattle.image.specs.Tree.{Label}
use Rattle.plan.specs.Kinds as K
use Rattle.plan.specs.Kinds.{What, expr, plan, part, unknown, what}
use Rattle.plan.specs.Syntax.{Value, null}
use Rattle.plan.specs.Values.{ValueRecord, Right, Valued, null_of, agrees, literal_at, literal_of}

abbrev right_l : Option ValueRecord → Bool
right_l (Some v) = agrees v.ty v.case
right_l None = true

right_here : (w : What) (l : Label) → right_l (literal_at w l) ≡ true
right_here (expr K.Integer) l = refl
right_here (expr K.Boolean) l = refl
right_here (expr K.Null) l = refl
right_here (expr K.Column) l = refl
right_here (expr K.Binary) l = refl
right_here (expr K.Not) l = refl
right_here (expr K.Test) l = refl
right_here (expr K.Between) l = refl
right_here (expr K.InList) l = refl
right_here (expr K.Function) l = refl
right_here (plan k) l = refl
right_here (part k) l = refl
right_here unknown l = refl

-- the record of a literal is right
pub right_literal : (l : Label) (v : ValueRecord) → literal_of l ≡ Some v → Right v
unfolding literal_of
right_literal l v e = rw e at (right_here (what l) l)

-- a NULL
module _ {r : ValueRecord} {t : ℕ} (e : r ≡ null_of t) where
  pub right_null : Right r
  right_null = rw e

  pub valued_null : {u : ℕ} {v : Value} → t ≡ u → null ≡ v → Valued r u v
  valued_null f h = rw e (record { type = f; value = h })
