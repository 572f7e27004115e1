-- The loop's invariant: the fields passed are swapped.
use mathlib.Core.List.{List}
use Rattle.image.specs.Subtrees.{tree_of}
use Rattle.plan.specs.Syntax.{Name}
use Rattle.utils.specs.Fields.{Names}
use Rattle.push_down_join.proofs.Growing.{Swapping}
use Rattle.push_down_join.proofs.infer_join_predicates.swap_keys.Given as goal

abbrev pub invariant-loop-i : goal.invariant-loop-i
invariant-loop-i g l = (ns : List Name) → Names l.fn.fields ns → Swapping l.to l.alone (tree_of l.plan).below ns l.i
