-- Words written one behind another.
use Rattle.std.proofs.Common.{◌≡◌, ℕ, ◌+◌, ◌%◌, ◌^◌, ◌≤◌, ◌<◌, List, [], ◌∷◌, ◌++◌, arith}
use Rattle.std.proofs.Common.{refl, sym, ap, ◌∙◌, length, take, drop, get_or, append_assoc, append-nil, length-take-le, take_at}
use native.Mathlib.Numerals.{add-one}
use lib.ListN.{length-append}
use lib.Seq.{sets, sets-eq, take-suc}
use Rattle.image.specs.Word.{le}
use Rattle.stored.specs.Outputs.{words_bytes}

-- no words, no bytes
pub no_words : words_bytes [] ≡ []
unfolding words_bytes
no_words = refl

words_append : (a b : List ℕ) → words_bytes (a ++ b) ≡ words_bytes a ++ words_bytes b
unfolding words_bytes
words_append [] b = refl
words_append (w ∷ a) b = ap (λ l. le (w % 2 ^ 32) ++ l) (words_append a b) ∙ sym (append_assoc (le (w % 2 ^ 32)) (words_bytes a) (words_bytes b))

one_word : (w : ℕ) → words_bytes (w ∷ []) ≡ le (w % 2 ^ 32)
unfolding words_bytes
one_word w = append-nil (le (w % 2 ^ 32))

-- a word more
next_word : (ws : List ℕ) (i : ℕ) → i < length ws → words_bytes (take (i + 1) ws) ≡ words_bytes (take i ws) ++ le (get_or ws i 0 % 2 ^ 32)
next_word ws i h =
    rw (add-one i, take-suc ws i 0 h, words_append (take i ws) (get_or ws i 0 ∷ []), one_word (get_or ws i 0)) refl

-- where it stands
take_sets : (out vs : List ℕ) (at : ℕ) → at + length vs ≤ length out → take (at + length vs) (sets out at vs) ≡ take at out ++ vs
take_sets out vs at h =
    let long : length (take at out ++ vs) ≡ at + length vs = omega (arith, length-append (take at out) vs, length-take-le at out (omega arith)) in
    rw (sets-eq vs out at h) (take_at (take at out ++ vs) (drop (at + length vs) out) (at + length vs) long)

pub word_written : (ws bytes out : List ℕ) (at i : ℕ) → i < length ws → at + 4 ≤ length bytes → take at bytes ≡ words_bytes (take i ws)
    → out ≡ sets bytes at (le (get_or ws i 0 % 2 ^ 32)) → take (at + 4) out ≡ words_bytes (take (i + 1) ws)
unfolding le
word_written ws bytes out at i h room before e =
    rw (e, next_word ws i h, ← before) (take_sets bytes (le (get_or ws i 0 % 2 ^ 32)) at room)
