-- `cells::Row::is_ok` meets its contract.
use mathlib.Core.Path.{◌≡◌}
use lib.ListN.{length, drop}
use Rattle.rewrite.specs.RowTest.{row_ok}
use Rattle.evaluate.proofs.cells.Row.is_ok.Given as goal

abbrev pub invariant-loop-i : goal.invariant-loop-i
invariant-loop-i l =
    (length l.self.values.now ≡ length l.self.types.now) × (length l.self.marks.now ≡ length l.self.types.now)
    × (row_ok (drop l.i l.self.types.now) (drop l.i l.self.values.now) (drop l.i l.self.marks.now) ≡ row_ok l.self.types.now l.self.values.now l.self.marks.now)
