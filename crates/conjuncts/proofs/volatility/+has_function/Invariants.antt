-- `volatility::has_function` meets its contract. The measure is the number of records. The loop's invariant: whether the tree holds a
-- function is whether the children that are left do.
use Rattle.std.proofs.Common.{◌≡◌, ◌≤◌}
use Rattle.image.specs.Tree.{size}
use Rattle.image.specs.Subtrees.{forest, tree_of}
use Rattle.conjuncts.specs.Functions.{marked, fn_any, fn_in}
use Rattle.conjuncts.proofs.volatility.+has_function.Given as goal

abbrev pub decreases-has_function : goal.decreases-has_function
decreases-has_function g l = size (tree_of l.tree).below

abbrev pub invariant-loop-child : goal.invariant-loop-child
invariant-loop-child g l =
    (fn_in (marked l.asked) (tree_of l.tree) ≡ fn_any (marked l.asked) (forest l.child-iterator))
    × (size (forest l.child-iterator) ≤ size (tree_of l.tree).below)
