-- `Text::put_counts` meets its contract.
use Rattle.text.specs.Lines.{counts}
use Rattle.text.proofs.Appending.{put_both}
use Rattle.text.proofs.numbers.Text.put_counts.Goals as goal

pub returns-clause-text : goal.returns-clause-text
unfolding counts
returns-clause-text c =
    rw (← c.from.ensures) (put_both c.put_name_and_number.ensures.text
    (put_both c.put_name_and_number-2.ensures.text (put_both c.put_name_and_number-3.ensures.text c.put.ensures)))
