-- `simplify_predicates::compared_at` meets its contract.
use lib.ListN.{get_or}
use Rattle.conjuncts.specs.Items.{FALSE}
use Rattle.conjuncts.proofs.Listed.{lists_at}
use Rattle.conjuncts.proofs.Standing.{tree_found}
use Rattle.rewrite.specs.SimplifyPredicates.{view}
use Rattle.simplify_expressions.proofs.simplify_predicates.compared_at.Goals as goal

pub item_tree-requires : goal.item_tree-requires
item_tree-requires c =
    let p = c.requires.known in record { expr = _; item = lists_at p.lists p.most c.args.i _ c.requires.i_lt_len c.item_at.ensures }

pub returns-in_err-item_tree : goal.returns-in_err-item_tree
unfolding view
returns-in_err-item_tree c =
    λ es h. let w = lists_at h c.requires.known.most c.args.i _ c.requires.i_lt_len c.item_at.ensures in
    rw (c.from_residual.ensures, c.in_err-item_tree.ensures (get_or es c.args.i FALSE) w)

pub returns : goal.returns
returns c =
    λ es h. let w = lists_at h c.requires.known.most c.args.i _ c.requires.i_lt_len c.item_at.ensures in
    let f = c.in_ok-item_tree.ensures (get_or es c.args.i FALSE) w in
    c.compared_in.ensures (get_or es c.args.i FALSE) (tree_found f) f.standing.fits
