-- `Text::put_name_and_number` meets its contract.
use native.Mathlib.Omega.{arith}
use Rattle.text.specs.Lines.{named}
use Rattle.text.proofs.Appending.{put_both}
use Rattle.text.proofs.Decimals.{spaced_long}
use Rattle.text.proofs.numbers.Text.put_name_and_number.Goals as goal

pub put_spaced-requires : goal.put_spaced-requires
put_spaced-requires c =
    omega (arith, c.put.ensures.written.end, c.put.ensures.same_length, spaced_long c.ranges.n.fits)

pub returns-clause-text : goal.returns-clause-text
unfolding named
returns-clause-text c = put_both c.put.ensures c.put_spaced.ensures

pub returns-clause-short : goal.returns-clause-short
returns-clause-short c =
    omega (arith, c.put.ensures.written.end, c.put_spaced.ensures.written.end, spaced_long c.ranges.n.fits)
