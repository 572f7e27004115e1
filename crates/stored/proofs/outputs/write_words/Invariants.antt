-- `outputs::write_words`: the words passed are written.
use Rattle.std.proofs.Common.{◌≡◌, ◌*◌, ◌≤◌, length, take}
use Rattle.stored.specs.Outputs.{words_bytes}
use Rattle.stored.proofs.outputs.write_words.Given as goal

abbrev pub invariant-loop-word : goal.invariant-loop-word
invariant-loop-word l = record {
  at : l.at ≡ 4 * l.word-index;
  within : l.at ≤ length l.bytes;
  same_length : length l.bytes ≡ length l.initial.bytes;
  written : take l.at l.bytes ≡ words_bytes (take l.word-index l.words);
}
