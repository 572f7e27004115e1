-- `testing::truth_number` meets its contract.
use Rattle.rewrite.specs.RowTest.{no_test, truth_number}
use Rattle.call_row_test.proofs.testing.truth_number.Goals as goal

pub returns-in-False : goal.returns-in-False
unfolding truth_number
returns-in-False c =
    rw (c.in-Ok.is, c.in-False.is)

pub returns-in-True : goal.returns-in-True
unfolding truth_number
returns-in-True c =
    rw (c.in-Ok.is, c.in-True.is)

pub returns-in-Unknown : goal.returns-in-Unknown
unfolding truth_number
returns-in-Unknown c =
    rw (c.in-Ok.is, c.in-Unknown.is)

pub returns-in-Err : goal.returns-in-Err
unfolding no_test
returns-in-Err c = rw c.in-Err.is
