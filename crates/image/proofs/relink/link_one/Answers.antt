-- `relink::link_one` meets its contract: two runs of stores are one, and so are two stores to the table.
use mathlib.Core.Path.{refl}
use native.Mathlib.Nat.{add_assoc}
use Rattle.image.proofs.Writing.{sets_append, le_length}
use Rattle.image.proofs.relink.link_one.Goals as goal

pub returns : goal.returns
returns c =
    rw (← c.word_at-d.ensures.0) (record {
      out_after = rw (c.put_word-2.ensures, c.put_word.ensures)
          (simp (sets_append, le_length, add_assoc));
      table_after = refl;
    })
