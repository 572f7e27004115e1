-- What is written into the text's buffer.
use Rattle.std.specs.Prelude.{◌≡◌, List, [], ◌++◌, ℕ, zero, suc, ◌+◌, length, take, drop}
use Rattle.image.specs.Word.{word}
use Rattle.image.specs.Tree.{label_at}
use Rattle.text.specs.declared.numbers.Text.{Text}
use Rattle.text.specs.Lines.{line}

-- the bytes bs stand behind what stood before `at`, and end before r
pub record Appended (before after : List ℕ) (at r : ℕ) (bs : List ℕ) : Type 0 where
  pub end : r ≡ at + length bs
  pub text : take r after ≡ take at before ++ bs

-- the text t is s with the bytes bs behind it, in the same space
pub record Puts (s t : Text) (bs : List ℕ) : Type 0 where
  pub same_reference : t.space.ghost_name ≡ s.space.ghost_name
  pub same_length : length t.space.now ≡ length s.space.now
  pub written : Appended s.space.now t.space.now s.at t.at bs

-- the lines of n records that are written flat, each with its depth in the place of its first link
unfoldable pub flat_lines : ℕ → List ℕ → List ℕ
flat_lines zero s = []
flat_lines (suc n) s = line (word s 24) (label_at s) ++ flat_lines n (drop 32 s)
