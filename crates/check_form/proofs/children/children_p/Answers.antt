-- `children::children_p` meets its contract.
use Rattle.plan.proofs.Bools.{both}
use Rattle.check_form.specs.Patterns.{meets}
use Rattle.check_form.specs.Sorts.{sort_of}
use Rattle.check_form.proofs.children.children_p.Goals as goal

pub returns-in-Aggregate : goal.returns-in-Aggregate
unfolding meets sort_of
returns-in-Aggregate g c = rw (c.in-Aggregate.is, c.meets-in-Aggregate.ensures, c.meets-in-Aggregate-2.ensures) (both _ _)
