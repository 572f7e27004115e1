-- `words::row_fits` meets its contract.
use Rattle.plan.specs.Words.{row_fits}
use Rattle.plan.proofs.Bools.{both}
use Rattle.check_form.proofs.words.row_fits.Goals as goal

pub returns : goal.returns
unfolding row_fits
returns c =
    rw (c.in_range.ensures, c.in_range-2.ensures, c.in_range-3.ensures, c.in_range-4.ensures, c.in_range-5.ensures) (simp both)
