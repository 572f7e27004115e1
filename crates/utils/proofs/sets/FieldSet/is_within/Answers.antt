-- `sets::FieldSet::is_within` meets its contract: a set is within another exactly if as many of its places are in both as it has.
use borrow.Author.Rules.{rules}
use Rattle.image.specs.Limits.{max_fields}
use Rattle.utils.proofs.Members.{within_count}
use Rattle.utils.proofs.sets.FieldSet.is_within.Goals as goal

pub returns : goal.returns
returns c =
    rw (← c.self.view_is, ← c.side.view_is) (within_count max_fields c.self.inside.0 c.side.inside.0 (search rules))
