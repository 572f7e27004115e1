-- `has_all_column_refs::columns_at` meets its contract.
use mathlib.Core.Path.{◌∙◌}
use Rattle.plan.specs.Schema.{has}
use Rattle.conjuncts.proofs.Standing.{tree_found}
use Rattle.utils.proofs.Answering.{answers_false, answers_expr, tree_columns}
use Rattle.utils.proofs.has_all_column_refs.columns_at.Goals as goal

pub returns-in-Some : goal.returns-in-Some
returns-in-Some c =
    λ e ns h g held. let is = tree_found (c.in-Some.ensures e h) in
    answers_expr e (rw is at c.columns.ensures ns g (tree_columns (has ns) e ∙ held))

pub returns-in-None : goal.returns-in-None
returns-in-None c = λ e ns h g held. rw c.empty.ensures (answers_false ns e (c.in-None.ensures e h))
