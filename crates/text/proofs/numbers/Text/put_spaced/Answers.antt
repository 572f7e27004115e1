-- `Text::put_spaced` meets its contract.
use native.Mathlib.Omega.{arith}
use Rattle.text.specs.Lines.{spaced}
use Rattle.text.proofs.Appending.{put_both}
use Rattle.text.proofs.numbers.Text.put_spaced.Goals as goal

pub put-requires : goal.put-requires
unfolding spaced
put-requires c = omega arith

pub put_decimal-requires : goal.put_decimal-requires
unfolding spaced
put_decimal-requires c = omega arith

pub returns : goal.returns
unfolding spaced
returns c = put_both c.put.ensures c.put_decimal.ensures
