-- `records::put_record` meets its contract: two runs of four words.
use native.Mathlib.Nat.{add_assoc}
use Rattle.image.specs.Flat.{bytes_of}
use Rattle.image.proofs.Writing.{sets_append, le_length}
use Rattle.image.proofs.records.put_record.Goals as goal

pub returns : goal.returns
unfolding bytes_of
returns c =
    rw (c.put_four-2.ensures, c.put_four.ensures)
    (simp (sets_append, le_length, add_assoc))
