-- `fields::made_by` meets its contract.
use mathlib.Core.Path.{sym, ap, ◌∙◌}
use Rattle.plan.specs.Kinds.{PartKind, part}
use Rattle.check_fields.specs.Fields.{type_first}
use Rattle.check_fields.proofs.Typing.{of_entry, first_typed, first_untyped}
use Rattle.check_fields.proofs.fields.made_by.Goals as goal

pub returns-in-Some : goal.returns-in-Some
returns-in-Some g c =
    λ d m. (rw c.label.ensures.label at (c.source_of.ensures d)) ∙ first_typed c.in-Some.ensures.is d
    ∙ ap (type_first d) c.children.ensures.is
    ∙ of_entry _ _ d
    (sym (rw c.label-label.ensures.label at c.what_of.ensures)
    ∙ c.in-Part-EntryPart.is ∙ ap (λ (k : PartKind). part k) c.in-Part-EntryPart.field-0-is)

pub returns-in-None : goal.returns-in-None
returns-in-None g c =
    λ d m. first_untyped d c.in-None.ensures
    ∙ ap (type_first d) c.children.ensures.is
    ∙ of_entry _ _ d
    (sym (rw c.label-label.ensures.label at c.what_of.ensures)
    ∙ c.in-Part-EntryPart.is ∙ ap (λ (k : PartKind). part k) c.in-Part-EntryPart.field-0-is)
