-- `has_all_column_refs::columns_of` meets its contract. The measure is the number of records. The loop's invariant: the set, with the children
-- that are left, is of the columns of the tree.
use Rattle.std.proofs.Common.{◌≡◌, ◌≤◌, List, map, true}
use Rattle.image.specs.Subtrees.{forest, tree_of}
use Rattle.image.specs.Tree.{size}
use Rattle.plan.specs.Schema.{has}
use Rattle.plan.specs.Syntax.{Name}
use Rattle.utils.specs.Fields.{coded}
use Rattle.utils.specs.Referring.{on_tree}
use Rattle.utils.proofs.Answering.{So}
use Rattle.utils.proofs.has_all_column_refs.+columns_of.Given as goal

abbrev pub decreases-columns_of : goal.decreases-columns_of
decreases-columns_of g l = size (tree_of l.tree).below

abbrev pub invariant-loop-child : goal.invariant-loop-child
invariant-loop-child g l =
    ((ns : List Name) → l.fields ≡ map coded ns → on_tree (has ns) (tree_of l.tree) ≡ true → So l.set ns (tree_of l.tree) (forest l.child-iterator))
    × (size (forest l.child-iterator) ≤ size (tree_of l.tree).below)
