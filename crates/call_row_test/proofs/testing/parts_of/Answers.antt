-- `testing::parts_of` meets its contract.
use mathlib.Core.Path.{ap, ◌∙◌}
use Rattle.image.specs.Tree.{Tree}
use Rattle.call_row_test.proofs.RowTesting.{no_predicate, no_input, predicate_is, input_is}
use Rattle.call_row_test.proofs.testing.parts_of.Goals as goal

pub returns-in_err-predicate : goal.returns-in_err-predicate
returns-in_err-predicate c =
    λ e p h. let k = c.children.ensures.is ∙ ap (λ (t : Tree). t.below) h.is in
    absurd (no_predicate e p k c.in_err-predicate.ensures)

pub returns-in_err-input : goal.returns-in_err-input
returns-in_err-input c =
    λ e p h. let k = c.children.ensures.is ∙ ap (λ (t : Tree). t.below) h.is in
    absurd (no_input e p k c.in_ok-predicate.ensures.is c.in_err-input.ensures)

pub returns : goal.returns
returns c =
    λ e p h. let k = c.children.ensures.is ∙ ap (λ (t : Tree). t.below) h.is in
    (predicate_is e p k c.in_ok-predicate.ensures.is, input_is e p k c.in_ok-predicate.ensures.is c.in_ok-input.ensures.is)
