-- `Text::put_refusal` meets its contract.
use Rattle.text.specs.Lines.{refusal}
use Rattle.text.proofs.Appending.{put_both}
use Rattle.text.proofs.numbers.Text.put_refusal.Goals as goal

pub returns-clause-text : goal.returns-clause-text
unfolding refusal
returns-clause-text c =
    rw (← c.from.ensures, ← c.from-2.ensures) (put_both c.put_name_and_number.ensures.text (put_both c.put_name_and_number-2.ensures.text c.put.ensures))
