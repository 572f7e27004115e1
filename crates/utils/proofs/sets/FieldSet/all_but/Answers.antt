-- `sets::FieldSet::all_but` meets its contract.
use borrow.Author.Rules.{rules}
use Rattle.utils.proofs.Marking.{masks_not}
use Rattle.utils.proofs.sets.FieldSet.all_but.Goals as goal

pub returns : goal.returns
returns c =
    λ ns t is h. masks_not _ _ _ ns t c.requires is (search rules) (rw (← c.low.view_is) at c.low_places-low.ensures)
    (rw (← c.self.view_is) at h)
