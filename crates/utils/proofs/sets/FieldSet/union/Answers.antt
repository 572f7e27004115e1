-- `sets::FieldSet::union` meets its contract.
use Rattle.utils.proofs.Members.{member_or}
use Rattle.utils.proofs.sets.FieldSet.union.Goals as goal

pub returns : goal.returns
returns c =
    λ j. rw (← c.self.view_is, ← c.other.view_is) (member_or c.self.inside.0 c.other.inside.0 j)
