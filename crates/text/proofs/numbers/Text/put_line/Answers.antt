-- `Text::put_line` meets its contract.
use borrow.Author.Rules.{rules}
use native.Mathlib.Omega.{arith}
use Rattle.text.proofs.Appending.{put_both}
use Rattle.text.proofs.Decimals.{word_digits}
use Rattle.text.proofs.Records.{line_words}
use Rattle.text.proofs.numbers.Text.put_line.Goals as goal

pub put_decimal-requires : goal.put_decimal-requires
put_decimal-requires c = omega (arith, word_digits c.requires.1)

pub put_words-requires : goal.put_words-requires
put_words-requires c =
    let d = word_digits c.requires.1 in search rules

pub put_words-requires-2 : goal.put_words-requires-2
put_words-requires-2 c =
    let d = word_digits c.requires.1 in search rules

pub put-requires : goal.put-requires
put-requires c =
    let e = c.put_words.ensures in
    let f = c.put_words-2.ensures in
    omega (
      arith,
      word_digits c.requires.1,
      c.put_decimal.ensures.written.end,
      c.put_decimal.ensures.same_length,
      e.short,
      e.text.same_length,
      f.short,
      f.text.same_length,
    )

pub returns : goal.returns
returns c =
    rw (line_words _ c.args.label)
    (put_both c.put_decimal.ensures (put_both c.put_words.ensures.text (put_both c.put_words-2.ensures.text c.put.ensures)))
