-- `scopes::seek_seen` meets its contract: an arm for each view.
use mathlib.Core.Path.{refl, sym, ◌∙◌}
use mathlib.Core.List.{[]}
use Rattle.check_fields.proofs.Seeking.{seek_none}
use Rattle.check_fields.proofs.Scoping.{seek_left, seek_right}
use Rattle.check_fields.proofs.scopes.seek_seen.Goals as goal

pub returns-in-Nothing : goal.returns-in-Nothing
returns-in-Nothing g c = rw c.in-Nothing.is (sym (seek_none _ _ [] refl))

pub returns-in_err-left-in-BothInputs : goal.returns-in_err-left-in-BothInputs
returns-in_err-left-in-BothInputs g c =
    rw c.in-BothInputs.is
    (c.from_residual.ensures ∙ seek_left _ _ _ _ _ (sym c.in_err-left-in-BothInputs.was ∙ c.seek_field-in-BothInputs.ensures) (λ g. refl))

pub returns-in_err-left-in-FirstInputAndParts : goal.returns-in_err-left-in-FirstInputAndParts
returns-in_err-left-in-FirstInputAndParts g c =
    rw c.in-FirstInputAndParts.is
    (c.from_residual-in_err-left-in-FirstInputAndParts.ensures
    ∙ seek_left _ _ _ _ _ (sym c.in_err-left-in-FirstInputAndParts.was ∙ c.seek_field-in-FirstInputAndParts.ensures) (λ g. refl))

pub returns-in_ok-left-in-BothInputs : goal.returns-in_ok-left-in-BothInputs
returns-in_ok-left-in-BothInputs g c =
    rw c.in-BothInputs.is
    (seek_right _ _ _ _ _ (sym c.in_ok-left-in-BothInputs.was ∙ c.seek_field-in-BothInputs.ensures) c.seek_field-in-BothInputs-2.ensures)

pub returns-in_ok-left-in-FirstInputAndParts : goal.returns-in_ok-left-in-FirstInputAndParts
returns-in_ok-left-in-FirstInputAndParts g c =
    rw c.in-FirstInputAndParts.is
    (seek_right _ _ _ _ _ (sym c.in_ok-left-in-FirstInputAndParts.was ∙ c.seek_field-in-FirstInputAndParts.ensures)
    c.seek_alone-in-FirstInputAndParts.ensures)
