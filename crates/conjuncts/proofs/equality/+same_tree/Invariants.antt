-- `equality::same_tree` meets its contract. The measure is the number of records. The loop's invariant: the trees are the same if the
-- children that are left of both are.
use Rattle.std.proofs.Common.{◌≡◌, ◌≤◌}
use Rattle.image.specs.Tree.{size}
use Rattle.image.specs.Subtrees.{forest, tree_of}
use Rattle.conjuncts.specs.Equality.{same, same_any}
use Rattle.conjuncts.proofs.equality.+same_tree.Given as goal

abbrev pub decreases-same_tree : goal.decreases-same_tree
decreases-same_tree g l = size (tree_of l.a).below

abbrev pub invariant-loop-left : goal.invariant-loop-left
invariant-loop-left g l =
    (same (tree_of l.a) (tree_of l.b) ≡ same_any (forest l.left-iterator) (forest l.others))
    × (size (forest l.left-iterator) ≤ size (tree_of l.a).below)
