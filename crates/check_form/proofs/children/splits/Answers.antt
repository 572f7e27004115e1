-- `children::splits` meets its contract.
use mathlib.Core.Path.{◌∙◌}
use Rattle.check_form.specs.Patterns.{meets}
use Rattle.check_form.specs.Sorts.{sort_of}
use Rattle.check_form.proofs.Counts.{no_and, and_of}
use Rattle.check_form.proofs.children.splits.Goals as goal

pub returns-then-label : goal.returns-then-label
returns-then-label g c = no_and _ _ (rw c.label-label.ensures.label at c.if-label.true)

pub returns : goal.returns
unfolding meets sort_of
returns g c = (rw c.children.ensures.is at c.meets.ensures) ∙ and_of _ _ (rw c.label-label.ensures.label at c.if-label.false)
