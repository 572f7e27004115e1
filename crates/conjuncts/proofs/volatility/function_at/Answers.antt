-- `volatility::function_at` meets its contract.
use mathlib.Core.Path.{◌∙◌}
use lib.ListN.{get_or}
use Rattle.rewrite.specs.Utils.{any_fn}
use Rattle.conjuncts.specs.Items.{FALSE}
use Rattle.conjuncts.proofs.Listed.{lists_at}
use Rattle.conjuncts.proofs.Standing.{tree_found}
use Rattle.conjuncts.proofs.FunctionsIn.{fn_tree}
use Rattle.conjuncts.proofs.volatility.function_at.Goals as goal

pub item_tree-requires : goal.item_tree-requires
item_tree-requires c =
    let p = c.requires.known in record { expr = _; item = lists_at p.lists p.most c.args.i _ c.requires.i_lt_len c.item_at.ensures }

pub returns-in-Some : goal.returns-in-Some
returns-in-Some c =
    λ es h. let w = lists_at h c.requires.known.most c.args.i _ c.requires.i_lt_len c.item_at.ensures in
    c.has_function.ensures ∙ rw (tree_found (c.in-Some.ensures (get_or es c.args.i FALSE) w)) (fn_tree _ _)

pub returns-in-None : goal.returns-in-None
unfolding any_fn
returns-in-None c =
    λ es h. let w = lists_at h c.requires.known.most c.args.i _ c.requires.i_lt_len c.item_at.ensures in
    rw (c.in-None.ensures (get_or es c.args.i FALSE) w)
