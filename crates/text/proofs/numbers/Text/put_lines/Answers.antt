-- `Text::put_lines` meets its contract.
use Rattle.std.proofs.Common.{◌≡◌, arith}
use Rattle.text.proofs.Records.{listed_none, listed_next}
use Rattle.text.proofs.numbers.Text.put_lines.Goals as goal

pub loop-i-init : goal.loop-i-init
loop-i-init c = listed_none _ _

pub put_line-requires : goal.put_line-requires
put_line-requires c =
    let k = c.loop-i.invariant in
    (c.label_at.ensures.1, c.word_at.ensures.1, omega (arith, k.short, k.lines.same_length, c.requires.1, c.loop-i-test.true))

pub loop-i-preserved : goal.loop-i-preserved
loop-i-preserved c =
    let d = c.word_at.ensures in
    let l = c.label_at.ensures in
    listed_next _ _ c.record_at-part.ensures d.0 l.0 d.1 l.1 c.loop-i.invariant c.put_line.ensures

pub returns : goal.returns
returns c =
    let e : c.args.n ≡ c.loop-i.i = omega (arith, c.loop-i-test.false, c.loop-i.auto.i-end) in
    rw e (record { text = c.loop-i.invariant.lines; short = c.loop-i.invariant.short })
