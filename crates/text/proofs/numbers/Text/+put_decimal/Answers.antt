-- `Text::put_decimal` meets its contract: one digit, or those of a tenth and one more.
use Rattle.std.proofs.Common.{arith}
use Rattle.text.proofs.Appending.{put_both}
use Rattle.text.proofs.Decimals.{decimal_one, decimal_more, length_one, length_more}
use Rattle.text.proofs.numbers.Text.+put_decimal.Goals as goal

pub put-requires : goal.put-requires
put-requires t c = omega (arith, length_one _ c.if-n-lt10.true, c.requires)

pub put_decimal-requires : goal.put_decimal-requires
put_decimal-requires t c = (omega arith, omega (arith, length_more _ c.if-n-lt10.false, c.requires))

pub put-requires-else-n-lt10 : goal.put-requires-else-n-lt10
put-requires-else-n-lt10 t c =
    let p = c.put_decimal.ensures in
    omega (arith, length_more _ c.if-n-lt10.false, p.written.end, p.same_length, c.requires)

pub returns-then-n-lt10 : goal.returns-then-n-lt10
returns-then-n-lt10 t c = rw (decimal_one _ c.if-n-lt10.true, ← c.digit.ensures) c.put.ensures

pub returns-else-n-lt10 : goal.returns-else-n-lt10
returns-else-n-lt10 t c =
    rw (decimal_more _ c.if-n-lt10.false, ← c.digit-else-n-lt10.ensures) (put_both c.put_decimal.ensures c.put-else-n-lt10.ensures)
