-- `outputs::write_words`: a word more is written behind those passed.
use Rattle.std.proofs.Common.{arith, rules, refl, sym}
use Rattle.stored.proofs.Words.{no_words, word_written}
use Rattle.stored.proofs.outputs.write_words.Goals as goal

pub loop-word-init : goal.loop-word-init
loop-word-init c = record { at = refl; within = omega arith; same_length = refl; written = sym no_words }

pub loop-word-preserved : goal.loop-word-preserved
loop-word-preserved c =
    let old = c.loop-word.invariant in
    record {
      at = omega arith;
      within = omega (arith, c.put_word.auto.out);
      same_length = search rules;
      written = word_written c.args.words.now _ _ _ c.loop-word.word-index c.loop-word-test.true (omega arith) old.written c.put_word.ensures;
    }
