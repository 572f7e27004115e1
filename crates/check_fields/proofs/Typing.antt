-- Laws of types: of an expression, of the field that a part makes.
-- Assumes nothing.
use mathlib.Core.Path.{◌≡◌, refl, sym, ap, ◌∙◌}
use Prim.Native.Nat.{ℕ}
use Rattle.image.specs.Tree.{Label, Forest, none, node}
use Rattle.plan.specs.Kinds as K
use Rattle.plan.specs.Kinds.{What, expr, plan, part, unknown, what, what_of}
use Rattle.plan.specs.Syntax.{nm}
use Rattle.plan.proofs.Rebuilt.{kind_e}
use Rattle.check_fields.specs.Fields.{Schema, type_in, type_of, type_by, type_first}
use Rattle.check_fields.specs.Typed.{plain_type, part_type}

-- an expression that is no column has its type outright
plain_by : (w : What) (d : Schema) (l : Label) → (w ≡ expr K.Column → ⊥) → plain_type w l.p l.r ≡ type_by w d l
plain_by (plan k) d l z = refl
plain_by (part k) d l z = refl
plain_by unknown d l z = refl
plain_by (expr K.Column) d l z = absurd (z refl)
plain_by (expr K.Integer) d l z = refl
plain_by (expr K.Boolean) d l z = refl
plain_by (expr K.Null) d l z = refl
plain_by (expr K.Binary) d l z = refl
plain_by (expr K.Not) d l z = refl
plain_by (expr K.Test) d l z = refl
plain_by (expr K.Between) d l z = refl
plain_by (expr K.InList) d l z = refl
plain_by (expr K.Function) d l z = refl

-- of an expression's label
module _ (l : Label) (d : Schema) where
  -- a column has the type of its field
  pub source_column : l.kind ≡ K.number_e K.Column → type_in d (nm l.p l.q) ≡ type_of d l
  unfolding type_of what_of K.among
  source_column e = rw e refl

  -- another expression has it outright
  pub source_plain : {t : ℕ} → (l.kind ≡ K.number_e K.Column → ⊥) → t ≡ plain_type (what l) l.p l.r → t ≡ type_of d l
  unfolding type_of
  source_plain {t} z e = e ∙ plain_by (what l) d l (λ q. z (kind_e l K.Column q))

-- the type of the first expression
pub first_typed : {f : Forest} {l : Label} {cs ns : Forest} → f ≡ node l cs ns → (d : Schema) → type_of d l ≡ type_first d f
unfolding type_first
first_typed w d = sym (ap (type_first d) w)

pub first_untyped : (d : Schema) {f : Forest} → f ≡ none → 0 ≡ type_first d f
unfolding type_first
first_untyped d e = sym (ap (type_first d) e)

-- an entry's field has that of its expression
pub of_entry : (l : Label) (cs : Forest) (d : Schema) → what l ≡ part K.EntryPart → type_first d cs ≡ part_type (what l) d l cs
of_entry l cs d e = sym (ap (λ (u : What). part_type u d l cs) e)
