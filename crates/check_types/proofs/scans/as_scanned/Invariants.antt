-- `scans::as_scanned` meets its contract. The loop's invariant: no record that was passed is a scan of the table.
use mathlib.Core.Path.{◌≡◌}
use mathlib.Core.Bool.{false}
use Prim.Native.Nat.{ℕ, ◌<◌}
use Rattle.check_types.proofs.Scanning.{scans_at}
use Rattle.check_types.proofs.scans.as_scanned.Given as goal

abbrev pub invariant-loop-number : goal.invariant-loop-number
invariant-loop-number g l = (i : ℕ) → i < l.number → scans_at l.table l.root.image.now i ≡ false
