-- Laws of where a plan has its fields from: what a test `role == Role::Creates` of the code tells.
-- Assumes nothing.
use mathlib.Core.Path.{◌≡◌, refl, ◌∙◌}
use mathlib.Core.Bool.{Bool}
use denote.Enum.Bare.{sameb}
use Rattle.plan.specs.contracts.field_sources.Role.{the_type}
use Rattle.plan.specs.FieldSources.{creates, joins, renames, extends}
use Rattle.plan.specs.declared.field_sources.Role.{Role}
use Rattle.plan.specs.declared.field_sources.Role.TheVariants.{NoPlan, Creates, Joins, Renames, Extends, Passes}

same_creates : (r : Role) → sameb the_type r Creates ≡ creates r
same_creates NoPlan = refl
same_creates Creates = refl
same_creates Joins = refl
same_creates Renames = refl
same_creates Extends = refl
same_creates Passes = refl

same_joins : (r : Role) → sameb the_type r Joins ≡ joins r
same_joins NoPlan = refl
same_joins Creates = refl
same_joins Joins = refl
same_joins Renames = refl
same_joins Extends = refl
same_joins Passes = refl

same_renames : (r : Role) → sameb the_type r Renames ≡ renames r
same_renames NoPlan = refl
same_renames Creates = refl
same_renames Joins = refl
same_renames Renames = refl
same_renames Extends = refl
same_renames Passes = refl

same_extends : (r : Role) → sameb the_type r Extends ≡ extends r
same_extends NoPlan = refl
same_extends Creates = refl
same_extends Joins = refl
same_extends Renames = refl
same_extends Extends = refl
same_extends Passes = refl

module _ (r : Role) {x : Bool} where
  pub is_creates : x ≡ sameb the_type r Creates → x ≡ creates r
  is_creates e = e ∙ same_creates r

  pub is_joins : x ≡ sameb the_type r Joins → x ≡ joins r
  is_joins e = e ∙ same_joins r

  pub is_renames : x ≡ sameb the_type r Renames → x ≡ renames r
  is_renames e = e ∙ same_renames r

  pub is_extends : x ≡ sameb the_type r Extends → x ≡ extends r
  is_extends e = e ∙ same_extends r
