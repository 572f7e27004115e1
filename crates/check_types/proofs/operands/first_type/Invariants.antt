-- `operands::first_type` meets its contract. The loop's invariant: no tree so far is an expression.
use mathlib.Core.Path.{◌≡◌}
use Rattle.image.specs.Subtrees.{forest}
use Rattle.check_fields.specs.Rules.{types_of}
use Rattle.check_fields.specs.Scopes.{scope_at}
use Rattle.check_types.proofs.operands.first_type.Given as goal

abbrev pub invariant-loop-tree : goal.invariant-loop-tree
invariant-loop-tree g l =
    types_of (scope_at l.here) (scope_at l.after) (forest l.trees) ≡ types_of (scope_at l.over) (scope_at l.after) (forest l.tree-iterator)
