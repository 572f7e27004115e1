-- `filter::fits` meets its contract.
use Rattle.push_down_merge.proofs.Tested.{fitting_full, fitting_is}
use Rattle.push_down_merge.proofs.filter.fits.Goals as goal

pub returns-then-records-gt-MAX_RECORDS : goal.returns-then-records-gt-MAX_RECORDS
returns-then-records-gt-MAX_RECORDS c = fitting_full c.if-records-gt-MAX_RECORDS.true

pub returns : goal.returns
returns c = fitting_is c.if-records-gt-MAX_RECORDS.false c.is_shallow.ensures
