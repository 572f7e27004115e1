-- `walk::bad_type` meets its contract. The measure is how many trees there are.
-- The loop's invariant: the lowest of the trees is the lowest of those that are left.
use mathlib.Core.Path.{◌≡◌}
use Prim.Native.Nat.{◌≤◌}
use Rattle.image.specs.Lowest.{alone, lowest}
use Rattle.image.specs.Subtrees.{forest, tree_of}
use Rattle.image.specs.Tree.{size}
use Rattle.check_fields.specs.Rules.{type_ok, hand}
use Rattle.check_fields.specs.Scopes.{scope_at}
use Rattle.check_types.proofs.walk.+bad_type.Given as goal

abbrev pub decreases-bad_type : goal.decreases-bad_type
decreases-bad_type g l = size (forest l.trees)

abbrev pub invariant-loop-tree : goal.invariant-loop-tree
invariant-loop-tree g l =
    (size (forest l.tree-iterator) ≤ size (forest l.trees))
    × (lowest (type_ok (alone (tree_of l.root))) hand (scope_at l.over) (scope_at l.after) l.tree-iterator.first (forest l.tree-iterator)
    ≡ lowest (type_ok (alone (tree_of l.root))) hand (scope_at l.here) (scope_at l.after) l.trees.first (forest l.trees))
