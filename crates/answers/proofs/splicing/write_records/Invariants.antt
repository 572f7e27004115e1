-- `splicing::write_records` meets its contract. The loop's invariant: the records that are left complete the output.
use mathlib.Core.Path.{◌≡◌}
use Prim.Native.Nat.{◌+◌, ◌-◌, ◌≤◌}
use Rattle.image.specs.Limits.{max_records, no_room}
use Rattle.image.specs.Room.{cap}
use Rattle.image.specs.Tree.{Tree, At}
use Rattle.image.specs.Flat.{size_t}
use Rattle.answers.specs.Splicing.{Levels}
use Rattle.answers.proofs.Whole.{Run}
use Rattle.answers.proofs.splicing.write_records.Given as goal

abbrev pub invariant-loop-number : goal.invariant-loop-number
invariant-loop-number l =
    (l.out.bytes.ghost_name ≡ l.fn.out.bytes.ghost_name)
    × (l.out.next ≤ no_room)
    × (cap (l.out.next + (l.n - l.number)) ≡ cap (l.fn.out.next + (l.n - l.from)))
    × ((t : Tree) → At t l.s 0 → size_t t ≤ max_records → l.n ≤ size_t t → Levels l.levels t
    → Run t l.n l.from l.fn.out.bytes.now l.fn.out.next l.number l.out.bytes.now l.out.next)
