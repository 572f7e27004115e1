-- `copying::Writer::put` meets its contract: a record is written where there is room, and past the end a store does nothing.
use mathlib.Core.Path.{sym}
use Prim.Native.Nat.{◌+◌, ◌*◌, ◌≤◌}
use lib.ListN.{length}
use native.Mathlib.Omega.{arith}
use Rattle.image.specs.Flat.{bytes_of}
use Rattle.image.proofs.Room.{sets_past, cap_is, cap_over}
use Rattle.image.proofs.copying.Writer.put.Goals as goal

pub returns-then-self-lt-MAX_RECORDS-clause-put : goal.returns-then-self-lt-MAX_RECORDS-clause-put
returns-then-self-lt-MAX_RECORDS-clause-put c =
    record { next = sym (cap_is (c.args.self.now.next + 1) (omega arith)); bytes = c.put_record.ensures }

pub returns-else-self-lt-MAX_RECORDS-clause-put : goal.returns-else-self-lt-MAX_RECORDS-clause-put
returns-else-self-lt-MAX_RECORDS-clause-put c =
    let w = c.args.self.now in
    let h : length w.bytes.now ≤ 32 * w.next = omega (arith, w.long) in
    record { next = sym (cap_over (w.next + 1) (omega arith)); bytes = sym (sets_past w.bytes.now (32 * w.next) (bytes_of c.args.label c.args.level 0) h) }
