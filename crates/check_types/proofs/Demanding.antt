-- Laws of what a record asks of the types of its own expressions.
--     types_none, types_other, types_more   the types of some trees, tree by tree
--     have_none, have_not, have_more        all have a type
--     alike_none, alike_first               they are one type
--     first_none, first_is                  the first type
-- Assumes nothing.
use mathlib.Core.Path.{◌≡◌, ap, ◌∙◌}
use mathlib.Core.Bool.{true, false}
use mathlib.Core.List.{List, [], ◌∷◌}
use Prim.Native.Nat.{ℕ}
use lib.Dec.{eqb}
use borrow.Author.Tests.{eq-eqb, ne_eqb}
use Rattle.image.specs.Tree.{Label, Forest, none, node}
use Rattle.plan.specs.Lists.{◌&◌, put, all}
use Rattle.plan.specs.Kinds.{is_expr}
use Rattle.check_fields.specs.Fields.{first, type_of}
use Rattle.check_fields.specs.Rules.{Scope, seen, types_of, alike}

-- ---- the types of some trees

-- no trees, no types
pub types_none : (c after : Scope) (f : Forest) → f ≡ none → types_of c after f ≡ []
unfolding types_of
types_none c after f e = rw e

module _ {f : Forest} {l : Label} {cs ns : Forest} (w : f ≡ node l cs ns) (c after : Scope) where
  types_step : types_of c after f ≡ put (is_expr l) (type_of (seen c) l) (types_of after after ns)
  unfolding types_of
  types_step = ap (types_of c after) w

  -- the first is no expression
  pub types_other : is_expr l ≡ false → types_of c after f ≡ types_of after after ns
  unfolding put
  types_other z = types_step ∙ rw z

  -- it is one
  pub types_more : is_expr l ≡ true → types_of c after f ≡ type_of (seen c) l ∷ types_of after after ns
  unfolding put
  types_more z = types_step ∙ rw z

-- ---- all have the type t

pub have_none : (t : ℕ) {ts : List ℕ} → ts ≡ [] → all (eqb t) ts ≡ true
unfolding all
have_none t e = rw e

module _ (t : ℕ) {u : ℕ} {ts us : List ℕ} (e : ts ≡ u ∷ us) where
  -- the first has another
  pub have_not : (t ≡ u → ⊥) → all (eqb t) ts ≡ false
  unfolding all ◌&◌
  have_not n = rw (e, ne_eqb t u n)

  -- it has it
  pub have_more : t ≡ u → all (eqb t) ts ≡ all (eqb t) us
  unfolding all ◌&◌
  have_more n = rw (e, eq-eqb t u n)

-- ---- all have one type

pub alike_none : {ts : List ℕ} → ts ≡ [] → alike ts ≡ true
unfolding alike
alike_none e = rw e

-- that of the first
pub alike_first : {u : ℕ} {ts us : List ℕ} → ts ≡ u ∷ us → alike ts ≡ all (eqb u) us
unfolding alike
alike_first e = rw e

-- ---- the first type

pub first_none : {ts : List ℕ} → ts ≡ [] → first 0 ts ≡ 0
unfolding first
first_none e = rw e

pub first_is : {u : ℕ} {ts us : List ℕ} → ts ≡ u ∷ us → first 0 ts ≡ u
unfolding first
first_is e = rw e
