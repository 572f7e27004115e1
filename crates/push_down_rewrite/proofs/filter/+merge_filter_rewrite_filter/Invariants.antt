-- `filter::rewrite_filter` and `filter::merge_filter` meet their contracts. The plan nodes below the input fall: twice as many, and one more
-- for `rewrite_filter`, which calls `merge_filter` over the same input.
use Prim.Native.Nat.{◌+◌}
use Rattle.push_down_rewrite.specs.Filters.{plans_below}
use Rattle.push_down_rewrite.proofs.filter.+merge_filter_rewrite_filter.Given as goal

abbrev pub decreases-rewrite_filter : goal.decreases-rewrite_filter
decreases-rewrite_filter l = plans_below l.plan.image.now l.input.number + plans_below l.plan.image.now l.input.number + 1

abbrev pub decreases-merge_filter : goal.decreases-merge_filter
decreases-merge_filter l = plans_below l.plan.image.now l.child.number + plans_below l.plan.image.now l.child.number
