-- `operands::all_have` meets its contract. The loop's invariant: all expressions so far have the type.
use mathlib.Core.Path.{◌≡◌}
use lib.Dec.{eqb}
use Rattle.image.specs.Subtrees.{forest}
use Rattle.plan.specs.Lists.{all}
use Rattle.check_fields.specs.Rules.{types_of}
use Rattle.check_fields.specs.Scopes.{scope_at}
use Rattle.check_types.proofs.operands.all_have.Given as goal

abbrev pub invariant-loop-tree : goal.invariant-loop-tree
invariant-loop-tree g l =
    all (eqb l.t) (types_of (scope_at l.here) (scope_at l.after) (forest l.trees))
    ≡ all (eqb l.t) (types_of (scope_at l.over) (scope_at l.after) (forest l.tree-iterator))
