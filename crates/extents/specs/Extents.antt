-- How large a tree of records is, as the code holds it.
use Rattle.std.specs.Prelude.{◌≡◌, ◌*◌, ◌≤◌}
use Rattle.image.specs.Limits.{max_list, max_records}
use Rattle.image.specs.Flat.{size_t}
use Rattle.image.specs.Tree.{Tree}
use Rattle.plan.specs.Measure.{depth_t}
use Rattle.extents.specs.declared.extent.Extent as declared

-- the struct of the code
abbrev pub Extent : Type 0
Extent = declared.Extent

-- r has the records and the levels of the tree t
pub record Measures (r : Extent) (t : Tree) : Type 0 where
  pub records : r.records ≡ size_t t
  pub depth : r.depth ≡ depth_t t

-- r counts no more than a full list of expressions as large as an image, and the Ands over them
pub record Bounded (r : Extent) : Type 0 where
  pub records : r.records ≤ 2 * max_records * max_list
  pub depth : r.depth ≤ 2 * max_records * max_list
