-- The loop's invariant: the set is that of the names passed.
use mathlib.Core.List.{List}
use lib.Dec.{ltb}
use lib.ListN.{take}
use Rattle.plan.specs.Syntax.{Name}
use Rattle.utils.specs.Fields.{Names, place_in}
use Rattle.utils.specs.Masks.{Masks}
use Rattle.push_down_join.proofs.infer_join_predicates.places_among.Given as goal

abbrev pub invariant-loop-i : goal.invariant-loop-i
invariant-loop-i l =
    (ns ms : List Name) → Names l.fields ns → Names l.fn.to ms → Masks l.set (take l.i ms) (λ y. ltb (place_in ns y) l.fn.k)
