-- Buffers that a caller lends, each of a length that is known, and the depths at which they are written.
use Rattle.std.specs.Prelude.{◌≡◌, List, ℕ, ◌+◌, ◌≤◌, ◌<◌, length}
use Rattle.image.specs.Limits.{Shallow, map_bytes, max_level, max_records, no_room, work_bytes}

-- a work buffer, for a writer of height k at depth `level`
abbrev pub Buffer : ℕ → ℕ → List ℕ → Type 0
Buffer k level out = Shallow k level × (length out ≡ work_bytes)

-- the same, where it is known that the writer begins at a record that there is, or behind the last one
abbrev pub BufferAt : ℕ → ℕ → List ℕ → ℕ → Type 0
BufferAt k level out at = Shallow k level × (length out ≡ work_bytes) × (at ≤ no_room)

-- the same for a tree of this depth
abbrev pub BufferTo : ℕ → ℕ → List ℕ → ℕ → Type 0
BufferTo depth level out at = (level + depth < max_level) × (length out ≡ work_bytes) × (at ≤ no_room)

-- what a rewrite writes into, and a level for each record
abbrev pub Scratch : List ℕ → List ℕ → Type 0
Scratch work levels = (length work ≡ work_bytes) × (length levels ≡ max_records)

-- the same, and room for a map of names
abbrev pub ScratchMap : List ℕ → List ℕ → List ℕ → Type 0
ScratchMap m work levels = (map_bytes ≤ length m) × (length work ≡ work_bytes) × (length levels ≡ max_records)
