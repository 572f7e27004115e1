-- `table_scan::supports_filters_pushdown` meets its contract: no column at all is the columns within the empty set.
use mathlib.Core.Path.{◌∙◌}
use Rattle.utils.proofs.Marking.{masks_none}
use Rattle.push_down_arms.proofs.Supported.{supports_none, supports_some}
use Rattle.push_down_arms.proofs.table_scan.supports_filters_pushdown.Goals as goal

pub returns-then-is_within : goal.returns-then-is_within
returns-then-is_within c =
    λ e ns t h k o m. supports_none t e
    (rw c.empty.ensures at c.is_within.ensures ∙ (c.columns_at-columns.ensures e ns h k o).says _ _ (masks_none ns)) c.if-is_within.true

pub returns : goal.returns
returns c =
    λ e ns t h k o m. let v = c.columns_at-columns.ensures e ns h k o in
    supports_some t e (rw c.empty.ensures at c.is_within.ensures ∙ v.says _ _ (masks_none ns)) c.if-is_within.false
    (c.is_within-2.ensures ∙ v.says _ t m)
