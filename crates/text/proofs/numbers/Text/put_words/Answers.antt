-- `Text::put_words` meets its contract.
use native.Mathlib.Omega.{arith}
use Rattle.text.proofs.Appending.{put_both}
use Rattle.text.proofs.Decimals.{spaced_word}
use Rattle.text.proofs.numbers.Text.put_words.Goals as goal

pub put_spaced-requires : goal.put_spaced-requires
put_spaced-requires c = omega (arith, spaced_word c.requires.0)

pub put_spaced-requires-2 : goal.put_spaced-requires-2
put_spaced-requires-2 c =
    let p = c.requires in
    let x = c.put_spaced.ensures in
    omega (arith, spaced_word p.0, spaced_word p.1, x.written.end, x.same_length)

pub put_spaced-requires-3 : goal.put_spaced-requires-3
put_spaced-requires-3 c =
    let p = c.requires in
    let x = c.put_spaced.ensures in
    let y = c.put_spaced-2.ensures in
    omega (arith, spaced_word p.0, spaced_word p.1, spaced_word p.2, x.written.end, x.same_length, y.written.end, y.same_length)

pub returns-clause-text : goal.returns-clause-text
returns-clause-text c = put_both c.put_spaced.ensures (put_both c.put_spaced-2.ensures c.put_spaced-3.ensures)

pub returns-clause-short : goal.returns-clause-short
returns-clause-short c =
    let p = c.requires in
    let x = c.put_spaced.ensures.written.end in
    let y = c.put_spaced-2.ensures.written.end in
    omega (arith, spaced_word p.0, spaced_word p.1, spaced_word p.2, x, y, c.put_spaced-3.ensures.written.end)
