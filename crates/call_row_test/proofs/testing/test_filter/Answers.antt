-- `testing::test_filter` meets its contract.
use native.Mathlib.Omega.{arith}
use mathlib.Core.Path.{ap, ◌∙◌}
use mathlib.Core.List.{[]}
use Rattle.image.specs.Tree.{Tree}
use Rattle.call_row_test.proofs.RowTesting.{all_fields, as_many, its_types, whole_part}
use borrow.Author.Rules.{rules}
use Rattle.call_row_test.proofs.testing.test_filter.Goals as goal

pub schema_columns-fields-requires : goal.schema_columns-fields-requires
schema_columns-fields-requires c =
    let w = c.requires in
    (omega arith, record { plan = w.1; is = (c.in-Some.ensures w.0 w.1 w.2).1 })

pub field_types-types-requires : goal.field_types-types-requires
field_types-types-requires c =
    let w = c.requires in
    (omega arith, (all_fields w.0 w.1 w.2.sound (c.schema_columns-fields.ensures w.1 [] (c.in-Some.ensures w.0 w.1 w.2).1 c.no_fields.ensures)).1)

pub slice_bounds-types-end : goal.slice_bounds-types-end
slice_bounds-types-end c =
    let w = c.requires in
    let h = (all_fields w.0 w.1 w.2.sound (c.schema_columns-fields.ensures w.1 [] (c.in-Some.ensures w.0 w.1 w.2).1 c.no_fields.ensures)).1 in
    search rules

pub slice_bounds-test_predicate-end : goal.slice_bounds-test_predicate-end
slice_bounds-test_predicate-end c =
    let w = c.requires in
    let h = (all_fields w.0 w.1 w.2.sound (c.schema_columns-fields.ensures w.1 [] (c.in-Some.ensures w.0 w.1 w.2).1 c.no_fields.ensures)).1 in
    whole_part c.schema_columns-fields.result.len c.field_types-types.result (search rules)

pub test_predicate-requires : goal.test_predicate-requires
test_predicate-requires c =
    let w = c.requires in
    (all_fields w.0 w.1 w.2.sound (c.schema_columns-fields.ensures w.1 [] (c.in-Some.ensures w.0 w.1 w.2).1 c.no_fields.ensures)).1

pub returns-in_default : goal.returns-in_default
returns-in_default c = λ e p h. absurd (c.in_default.ensures e p h)

pub returns : goal.returns
returns c =
    λ e p h. let x = c.in-Some.ensures e p h in
    let names = c.schema_columns-fields.ensures p [] x.1 c.no_fields.ensures in
    let a = all_fields e p h.sound names in
    let b = c.children.ensures.is ∙ ap (λ (t : Tree). t.below) h.is in
    c.test_predicate.ensures e p x.0 h.sound.fits.0 names
    (its_types e p ((rw b at c.field_types-types.ensures) (as_many e p a.0)))
