-- `has_all_column_refs::has_all_column_refs` meets its contract: the set of the columns is within that of the side.
use mathlib.Core.Path.{◌∙◌}
use Rattle.plan.specs.Schema.{has}
use Rattle.utils.proofs.Answering.{tree_columns}
use Rattle.utils.proofs.has_all_column_refs.has_all_column_refs.Goals as goal

pub returns : goal.returns
returns g c =
    λ e ns t is g held k. let s = rw is at c.columns.ensures ns g (tree_columns (has ns) e ∙ held) in
    c.is_within.ensures ∙ (s.says _ t k ∙ tree_columns t e)
