-- `naming::bad_name` meets its contract. The measure is how many trees there are.
-- The loop's invariant: the lowest of the trees is the lowest of those that are left, and what is known of them.
use mathlib.Core.Path.{◌≡◌}
use mathlib.Core.Bool.{true}
use Prim.Native.Nat.{ℕ, ◌<◌, ◌≤◌}
use Rattle.image.specs.Lowest.{lowest}
use Rattle.image.specs.Subtrees.{forest}
use Rattle.image.specs.Tree.{size}
use Rattle.acceptance.specs.Names.{sound}
use Rattle.check_fields.specs.Fields.{input, inputs, names_in}
use Rattle.check_fields.specs.Rules.{name_ok, hand}
use Rattle.check_fields.specs.Scopes.{scope_at}
use Rattle.check_names.proofs.naming.+bad_name.Given as goal

abbrev pub decreases-bad_name : goal.decreases-bad_name
decreases-bad_name g l = size (forest l.trees)

abbrev pub invariant-loop-tree : goal.invariant-loop-tree
invariant-loop-tree g l =
    (size (forest l.tree-iterator) ≤ size (forest l.trees))
    × (((i : ℕ) → i < l.known → sound (names_in (input i (inputs (forest l.trees)))) ≡ true)
    → ((i : ℕ) → i < l.sound → sound (names_in (input i (inputs (forest l.tree-iterator)))) ≡ true)
    × (lowest name_ok hand (scope_at l.over) (scope_at l.after) l.tree-iterator.first (forest l.tree-iterator)
    ≡ lowest name_ok hand (scope_at l.here) (scope_at l.after) l.trees.first (forest l.trees)))
