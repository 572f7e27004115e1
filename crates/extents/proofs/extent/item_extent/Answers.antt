-- `extent::item_extent` meets its contract.
use Rattle.conjuncts.proofs.Standing.{tree_found}
use Rattle.extents.proofs.Extents.{measures_false}
use Rattle.extents.proofs.extent.item_extent.Goals as goal

pub returns-in-Some : goal.returns-in-Some
returns-in-Some c = λ e h. rw (tree_found (c.in-Some.ensures e h)) at c.tree_extent.ensures

pub returns-in-None : goal.returns-in-None
returns-in-None c = λ e h. rw (c.in-None.ensures e h) measures_false
