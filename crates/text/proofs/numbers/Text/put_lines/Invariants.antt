-- `Text::put_lines`: the lines of the records passed are written.
use Rattle.text.proofs.Records.{Listed}
use Rattle.text.proofs.numbers.Text.put_lines.Given as goal

abbrev pub invariant-loop-i : goal.invariant-loop-i
invariant-loop-i l = Listed l.flat l.initial.self l.self l.i
