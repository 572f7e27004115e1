-- `infer_join_predicates::partner` meets its contract. The loop's invariant: the partner is the one in what is left of the children.
use mathlib.Core.Path.{◌≡◌}
use Rattle.image.specs.Subtrees.{forest, tree_of}
use Rattle.utils.specs.Fields.{named}
use Rattle.push_down_join.specs.Partners.{partner_in}
use Rattle.push_down_join.proofs.infer_join_predicates.partner.Given as goal

abbrev pub invariant-loop-child : goal.invariant-loop-child
invariant-loop-child g l = partner_in (named l.x) (tree_of l.plan).below ≡ partner_in (named l.x) (forest l.child-iterator)
