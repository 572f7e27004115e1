-- `operands::all_alike` meets its contract. The loop's invariant: no tree so far is an expression.
use mathlib.Core.Path.{◌≡◌}
use Rattle.image.specs.Subtrees.{forest}
use Rattle.image.specs.Tree.{size}
use Rattle.check_fields.specs.Rules.{types_of}
use Rattle.check_fields.specs.Scopes.{scope_at}
use Rattle.check_types.proofs.operands.all_alike.Given as goal

abbrev pub invariant-loop-tree : goal.invariant-loop-tree
invariant-loop-tree g l =
    types_of (scope_at l.here) (scope_at l.after) (forest l.trees) ≡ types_of (scope_at l.over) (scope_at l.after) (forest l.left)

abbrev pub decreases-loop-tree : goal.decreases-loop-tree
decreases-loop-tree g l = size (forest l.left)
