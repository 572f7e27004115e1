-- Runs of records, written flat.
use Rattle.std.specs.Prelude.{ℕ, ◌+◌, ◌*◌, ◌≡◌, List, length}
use Rattle.std.proofs.lemmas.List.Edits.{sets}
use Rattle.image.specs.Room.{cap}
use Rattle.image.specs.Records.{Rec, flats}

-- records are written from record `at` on, and r is the record after them
pub record WroteAll (before after : List ℕ) (at r : ℕ) (xs : List Rec) : Type 0 where
  pub next : r ≡ cap (at + length xs)
  pub bytes : after ≡ sets before (32 * at) (flats xs)
