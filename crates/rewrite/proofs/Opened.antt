-- Everything opened that a call computes by: `unfolding opened` under a statement about closed plans lets `refl` run it.
use Prim.Native.Nat.{ℕ}
use mathlib.Core.Bool.{decide}
use native.Mathlib.Decide.{ℕ_discrete}
use Rattle.plan.specs.Syntax.{Plan}
use Rattle.plan.specs.Lists.{◌&◌, choose, put, when, keep, all, any, flatten}
use Rattle.plan.specs.Values.{literal_in, literal?}
use Rattle.plan.specs.Schema.{schema, schema_first}
use Rattle.plan.specs.Columns.{on_cols, on_cols_all}
use Rattle.rewrite.specs.Utils.{any_fn, any_fn_all, is_leafward_expr, replace_cols, replace_cols_all, split_conjunction}
use Rattle.rewrite.specs.Utils.{split_conjunction?, conjoin, conjunction, with_filters, both_pos, both_neg, Z-eq, same_e, unique}
use Rattle.rewrite.specs.SimplifyPredicates.{bound_of, rel_of, as_literal, as_column, make, or_item, view, enter, sort_out}
use Rattle.rewrite.specs.SimplifyPredicates.{simplify_predicates}
use Rattle.rewrite.specs.ReorderPredicates.{needs_reorder, reorder_predicates}
use Rattle.rewrite.specs.PushDownFilter.{both_or, either_and_option, guarded, extract_or_clause, is_or, listed, extract_or_clauses_for_join}
use Rattle.rewrite.specs.PushDownFilter.{pair_of, partner, to_partner, swap_keys, no_partner, infer_join_predicates, push_to, push_not}
use Rattle.rewrite.specs.PushDownFilter.{push_down_all_join, pick, rewrite_projection, rewrite_scan, rewrite_aggregate}
use Rattle.rewrite.specs.PushDownFilter.{rewrite_window, ren, renamed, filter_each, simplify_filter, merged, rewrite_filter, rewrite}
use Rattle.rewrite.specs.PushDownFilter.{merges_under, merges}
use Rattle.plan.specs.Kinds.{among, what_of}
use Rattle.plan.specs.Trees.{label_e, kids_e, forest_e, each, label_p, kids_p, forest_p}
use Rattle.plan.specs.Measure.{depth, size_e, size_p, sizes, depth_p}
use Rattle.rewrite.specs.Limits.{list_p, list_ps, within_limits}
use Rattle.rewrite.specs.RewriteAt.{focus, focus_all, result_fits, rewrite_in, rewrite_at, with_room, rewrite_call, Answer}
use Rattle.rewrite.specs.Pass.{plans, before_plans, inputs, first_input, each_input, visit, pass, pass_with_room, pass_call}

unfoldable pub opened : ℕ → ℕ → Plan → Answer
unfolding ◌&◌ choose put when keep all any flatten schema schema_first on_cols on_cols_all any_fn any_fn_all is_leafward_expr replace_cols
    replace_cols_all split_conjunction split_conjunction? conjoin conjunction with_filters both_pos both_neg Z-eq same_e unique bound_of
    rel_of as_literal literal_in literal? as_column make or_item view enter sort_out simplify_predicates needs_reorder reorder_predicates
    both_or either_and_option
    guarded extract_or_clause is_or listed extract_or_clauses_for_join pair_of partner to_partner swap_keys no_partner infer_join_predicates
    push_to push_not push_down_all_join pick rewrite_projection rewrite_scan rewrite_aggregate rewrite_window ren renamed filter_each
    simplify_filter merged rewrite_filter rewrite merges_under merges among what_of label_e kids_e forest_e each label_p kids_p forest_p depth
    size_e size_p sizes depth_p list_p list_ps within_limits focus focus_all result_fits rewrite_in rewrite_at with_room rewrite_call plans before_plans
    inputs first_input each_input visit pass pass_with_room pass_call decide ℕ_discrete
opened n room p = rewrite_call n room p
