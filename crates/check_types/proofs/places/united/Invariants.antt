-- `places::united` meets its contract. The loop's invariant: no tree so far is a plan.
use mathlib.Core.Path.{◌≡◌}
use Rattle.image.specs.Subtrees.{forest}
use Rattle.image.specs.Tree.{size}
use Rattle.check_fields.specs.Fields.{inputs}
use Rattle.check_types.proofs.places.united.Given as goal

abbrev pub invariant-loop-tree : goal.invariant-loop-tree
invariant-loop-tree g l = inputs (forest l.trees) ≡ inputs (forest l.left)

abbrev pub decreases-loop-tree : goal.decreases-loop-tree
decreases-loop-tree g l = size (forest l.left)
