-- `words::put_four` meets its contract: four runs of stores, each from where the last ended.
use native.Mathlib.Nat.{add_assoc}
use Rattle.image.proofs.Writing.{sets_append, le_length}
use Rattle.image.proofs.words.put_four.Goals as goal

pub returns : goal.returns
returns c =
    rw (
      c.put_word-4.ensures,
      c.put_word-3.ensures,
      c.put_word-2.ensures,
      c.put_word.ensures,
    ) (simp (sets_append, le_length, add_assoc))
