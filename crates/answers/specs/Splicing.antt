-- The whole image, with another tree in the place of one plan's.
use Rattle.std.specs.Prelude.{◌≡◌, List, ℕ, ◌+◌, ◌*◌, ◌≤◌, ◌<◌, length, get_or, take}
use Rattle.std.proofs.lemmas.List.Edits.{sets}
use Rattle.image.specs.Limits.{max_records, work_bytes, max_below}
use Rattle.image.specs.Word.{word}
use Rattle.image.specs.Tree.{Tree, At, Deep}
use Rattle.image.specs.Flat.{size_t, flat}
use Rattle.image.specs.Room.{cap}
use Rattle.plan.specs.Syntax.{Plan}
use Rattle.plan.specs.Trees.{plan_tree}
use Rattle.plan.specs.Measure.{size_p}
use Rattle.answers.specs.declared.splicing.Spot.{Spot}

-- some tree of at most `max_records` records stands at the start of s, no deeper than `max_depth`, and s is no longer than an image
pub record Sized (s : List ℕ) : Type 0 where
  pub tree : Tree
  pub at : At tree s 0
  pub deep : Deep tree.below max_below
  pub few : size_t tree ≤ max_records
  pub short : length s ≤ work_bytes

-- l has the depth of each record of t
pub record Levels (l : List ℕ) (t : Tree) : Type 0 where
  pub each : (i : ℕ) → i < size_t t → get_or l i 0 ≡ word (flat 1 t) (32 * i + 24)

-- k records, of the bytes bs, are written from record `at` on, and r is the record after them
pub record Ran (before after : List ℕ) (at k r : ℕ) (bs : List ℕ) : Type 0 where
  pub next : r ≡ cap (at + k)
  pub bytes : after ≡ sets before (32 * at) bs

-- the records of p before `node` are written flat, the depths of all its records are known, and r says where a new tree goes that is to
-- stand in the place of `old`, at record `node`
pub record Before (out levels : List ℕ) (p : Plan) (node : ℕ) (old : Plan) (r : Spot) : Type 0 where
  pub bytes : take (32 * node) out ≡ take (32 * node) (flat 1 (plan_tree p))
  pub depths : Levels levels (plan_tree p)
  pub level : r.level ≡ word (flat 1 (plan_tree p)) (32 * node + 24)
  pub end : r.end ≡ node + size_p old
  pub records : r.records ≡ size_p p
