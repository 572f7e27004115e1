-- `testing::test_predicate` meets its contract.
use mathlib.Core.Path.{ap, ◌∙◌}
use mathlib.Core.Bool.{not}
use Rattle.plan.specs.Schema.{schema}
use Rattle.conjuncts.proofs.FunctionsIn.{fn_tree}
use Rattle.call_row_test.proofs.RowTesting.{bad_row, with_function, with_truth, read_back, narrow, on_row}
use Rattle.call_row_test.proofs.testing.test_predicate.Goals as goal

pub returns-then-not-is_ok : goal.returns-then-not-is_ok
returns-then-not-is_ok c =
    λ e p h f n t. bad_row _ e p _ _ _ t c.is_ok.ensures (ap not c.if-not-is_ok.true)

pub returns-then-has_function : goal.returns-then-has_function
returns-then-has_function c =
    λ e p h f n t. with_function _ e p _ _ _ t c.is_ok.ensures
    ((rw h at c.has_function.ensures) ∙ fn_tree _ e) (ap not c.if-not-is_ok.false) c.if-has_function.true

pub returns : goal.returns
returns c =
    λ e p h f n t. with_truth _ e p _ _ _ t c.is_ok.ensures
    ((rw h at c.has_function.ensures) ∙ fn_tree _ e) (ap not c.if-not-is_ok.false)
    c.of.result c.evaluate.result.case c.if-has_function.false c.of.ensures
    ((rw h at (c.evaluate.ensures.is (schema p) n (narrow p t))).value ∙ on_row p _ _ t (read_back e f))
