-- `contain::movable` meets its contract. The loop's invariant: the set is that of the fields passed.
use mathlib.Core.List.{List}
use lib.ListN.{take}
use Rattle.image.specs.Subtrees.{tree_of}
use Rattle.plan.specs.Syntax.{Name}
use Rattle.utils.specs.Fields.{Names}
use Rattle.utils.specs.Masks.{Masks}
use Rattle.push_down_arms.specs.Movable.{may_move}
use Rattle.push_down_arms.proofs.contain.movable.Given as goal

abbrev pub invariant-loop-i : goal.invariant-loop-i
invariant-loop-i g l = (ns : List Name) → Names l.fn.fields ns → Masks l.set (take l.i ns) (may_move (tree_of l.plan))
