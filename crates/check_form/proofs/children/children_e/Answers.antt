-- `children::children_e` meets its contract.
use Rattle.check_form.specs.Patterns.{meets}
use Rattle.check_form.specs.Sorts.{sort_of}
use Rattle.check_form.proofs.children.children_e.Goals as goal

pub returns-in-Between : goal.returns-in-Between
unfolding meets sort_of
returns-in-Between g c = rw c.in-Between.is c.meets-in-Between.ensures
