-- The root of an image: what the form test finds there.
-- Assumes nothing.
use mathlib.Core.Path.{◌≡◌, refl}
use mathlib.Core.Bool.{true, false}
use Prim.Native.Nat.{ℕ}
use Rattle.std.specs.Prelude.{Some}
use Rattle.image.specs.Tree.{Tree, link}
use Rattle.image.specs.Lowest.{or_else, unless}
use Rattle.image.proofs.Finding.{root_here, root_below}
use Rattle.plan.specs.Kinds.{is_plan}
use Rattle.plan.specs.Form.{form_ok, bad_form}
use Rattle.check_form.specs.Misformed.{misformed}

module _ (t : Tree) where
  -- it is no plan
  pub no_plan : is_plan t.label ≡ false → Some 0 ≡ bad_form t
  unfolding bad_form or_else unless
  no_plan p = rw p

  module _ (p : is_plan t.label ≡ true) where
    -- it is a plan of the wrong form
    pub bad_root : form_ok t.label t.below ≡ false → Some 0 ≡ bad_form t
    unfolding bad_form or_else unless
    bad_root f = rw p (root_here {C = Unit {0}} (λ c l cs. form_ok l cs) (λ c l cs. (c, c)) tt tt t f)

    -- it is one of the right form: the test goes on below it
    pub root_good : form_ok t.label t.below ≡ true → (first : ℕ) → first ≡ link 1 t.below → misformed first t.below ≡ bad_form t
    unfolding bad_form or_else unless
    root_good f first e = rw p (root_below {C = Unit {0}} (λ c l cs. form_ok l cs) (λ c l cs. (c, c)) tt tt t tt tt first e refl f)
