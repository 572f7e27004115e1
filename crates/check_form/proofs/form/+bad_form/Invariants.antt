-- `form::bad_form` meets its contract. The measure is how many trees there are.
-- The loop's invariant: no record so far is of the wrong form.
use mathlib.Core.Path.{◌≡◌}
use Prim.Native.Nat.{◌≤◌}
use Rattle.image.specs.Subtrees.{forest}
use Rattle.image.specs.Tree.{size}
use Rattle.check_form.specs.Misformed.{misformed}
use Rattle.check_form.proofs.form.+bad_form.Given as goal

abbrev pub decreases-bad_form : goal.decreases-bad_form
decreases-bad_form g l = size (forest l.trees)

abbrev pub invariant-loop-tree : goal.invariant-loop-tree
invariant-loop-tree g l =
    (size (forest l.tree-iterator) ≤ size (forest l.trees))
    × (misformed l.tree-iterator.first (forest l.tree-iterator) ≡ misformed l.trees.first (forest l.trees))
