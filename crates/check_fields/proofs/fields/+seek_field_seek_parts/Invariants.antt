-- The cycle of `fields::seek_field` and `fields::seek_parts`. The measure of both is how many trees there are, twice, and one more for the parts.
use Prim.Native.Nat.{◌+◌}
use Rattle.image.specs.Tree.{size}
use Rattle.image.specs.Subtrees.{forest}
use Rattle.check_fields.proofs.fields.+seek_field_seek_parts.Given as goal

abbrev pub decreases-seek_parts : goal.decreases-seek_parts
decreases-seek_parts g l = size (forest l.parts) + size (forest l.parts) + 1

abbrev pub decreases-seek_field : goal.decreases-seek_field
decreases-seek_field g l = size (forest l.trees) + size (forest l.trees)
