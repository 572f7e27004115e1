-- A work buffer has room for the records of the longest image. Records past its end are counted, up to `no_room`, and not written.
use Rattle.std.specs.Prelude.{◌≡◌, List, ℕ, ◌+◌, ◌-◌, ◌*◌, ◌<◌}
use Rattle.std.proofs.lemmas.List.Edits.{sets}
use Rattle.image.specs.Limits.{max_level, no_room}
use Rattle.image.specs.Tree.{Deep, Forest, Label, Tree}
use Rattle.image.specs.Flat.{size_t, bytes_of, flat}

-- n, and `no_room` at most
unfoldable pub cap : ℕ → ℕ
cap n = n - (n - no_room)

-- a record is written at `at`, its depth in the place of its first link, and r is the record after it
pub record Put (before after : List ℕ) (at level r : ℕ) (l : Label) : Type 0 where
  pub next : r ≡ cap (at + 1)
  pub bytes : after ≡ sets before (32 * at) (bytes_of l level 0)

-- t is written flat from record `at` on, its top at depth `level`, and r is the record after it
pub record Wrote (before after : List ℕ) (at level r : ℕ) (t : Tree) : Type 0 where
  pub next : r ≡ cap (at + size_t t)
  pub bytes : after ≡ sets before (32 * at) (flat level t)

-- the trees may be written at depth `level`: no level overflows
pub record Low (level : ℕ) (f : Forest) : Type 0 where
  pub depth : ℕ
  pub deep : Deep f depth
  pub low : level + depth < max_level
