-- `equality::same_item` meets its contract.
use mathlib.Core.Path.{◌∙◌}
use Rattle.conjuncts.proofs.Equals.{same_turned, same_exprs}
use Rattle.conjuncts.proofs.Standing.{tree_found}
use Rattle.conjuncts.proofs.equality.same_item.Goals as goal

pub returns-in-Some-item_tree : goal.returns-in-Some-item_tree
returns-in-Some-item_tree c =
    λ a b h k. let x = c.in-Some.ensures a h in
    let y = c.in-Some-item_tree.ensures b k in
    c.same_tree.ensures ∙ rw (tree_found x, tree_found y) (same_exprs a b x.standing.fits y.standing.fits)

pub returns-in-None : goal.returns-in-None
returns-in-None c = λ a b h k. rw (c.in-None.ensures b k) (c.is_false_item-in-None.ensures a h ∙ same_turned _ a)
