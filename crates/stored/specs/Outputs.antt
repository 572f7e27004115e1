-- What an output holds after a call, and the bytes of words.
use Rattle.std.specs.Prelude.{◌≡◌, ℕ, ◌%◌, ◌^◌, List, [], ◌∷◌, ◌++◌, length, drop, slice_index, EachIndex}
use Rattle.image.specs.Word.{le}
use Rattle.std.specs.Io.{StartsWith}

-- zeros alone
abbrev pub IsZero : List ℕ → Type 0
IsZero s = EachIndex s (λ k. slice_index s k ≡ 0)

-- the answer, then zeros
abbrev pub IsAnswer : List ℕ → List ℕ → Type 0
IsAnswer output answer = StartsWith output answer × IsZero (drop (length answer) output)

-- words of 32 bits, four bytes each, the lowest first
unfoldable pub words_bytes : List ℕ → List ℕ
words_bytes [] = []
words_bytes (w ∷ ws) = le (w % 2 ^ 32) ++ words_bytes ws
