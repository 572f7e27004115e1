-- `places::as_first` meets its contract. The loop's invariant: the plans so far have the types.
use mathlib.Core.Path.{◌≡◌}
use Rattle.image.specs.Subtrees.{forest}
use Rattle.image.specs.Tree.{size}
use Rattle.plan.specs.Lists.{all}
use Rattle.acceptance.specs.Types.{same_types}
use Rattle.check_fields.specs.Fields.{input, inputs}
use Rattle.check_fields.specs.Rules.{types_in}
use Rattle.check_types.proofs.places.as_first.Given as goal

abbrev pub invariant-loop-tree : goal.invariant-loop-tree
invariant-loop-tree g l =
    all (λ t. same_types (types_in t) (types_in (input 0 (inputs (forest l.others))))) (inputs (forest l.trees))
    ≡ all (λ t. same_types (types_in t) (types_in (input 0 (inputs (forest l.others))))) (inputs (forest l.left))

abbrev pub decreases-loop-tree : goal.decreases-loop-tree
decreases-loop-tree g l = size (forest l.left)
