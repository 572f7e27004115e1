-- The loop over the records of an image: those before record i have the words of their kinds.
-- Assumes nothing.
use mathlib.Core.Path.{◌≡◌, sym, ◌∙◌}
use mathlib.Core.Bool.{true, false}
use mathlib.Core.List.{List}
use Prim.Native.Nat.{ℕ, suc, ◌+◌, ◌-◌, ◌*◌, ◌≤◌, ◌<◌}
use native.Mathlib.Omega.{arith}
use lib.ListN.{drop}
use lib.Seq.{drop-drop}
use Rattle.image.specs.Tree.{Label, label_at}
use Rattle.std.specs.Prelude.{None, Some}
use Rattle.image.specs.Lowest.{or_else, unless}
use Rattle.plan.specs.Words.{words_ok}
use Rattle.acceptance.specs.Check.{bad_words}

pub record Passed (n : ℕ) (s : List ℕ) (i : ℕ) : Type 0 where
  pub within : i ≤ n
  pub same : bad_words n s 0 ≡ bad_words (n - i) (drop (32 * i) s) i

module _ (n : ℕ) (s : List ℕ) (i : ℕ) (h : Passed n s i) where
  words_next : i < n → bad_words n s 0
      ≡ or_else (unless (words_ok (label_at (drop (32 * i) s))) i) (bad_words (n - (i + 1)) (drop (32 * (i + 1)) s) (i + 1))
  unfolding bad_words
  words_next l =
      let e : n - i ≡ suc (n - (i + 1)) = omega arith in
      let d : 32 * i + 32 ≡ 32 * (i + 1) = omega arith in
      h.same ∙ rw (e, drop-drop, d)

  -- what was looked at in record i
  module _ (part : List ℕ) (l : Label) (e : part ≡ drop (32 * i) s) (g : l ≡ label_at part) where
    words_here : words_ok l ≡ words_ok (label_at (drop (32 * i) s))
    words_here = rw (g, e)

    pub bad_here : i < n → words_ok l ≡ false → bad_words n s 0 ≡ Some i
    unfolding or_else unless
    bad_here lt f = words_next lt ∙ rw (sym words_here ∙ f)

    pub passed_one : i < n → words_ok l ≡ true → Passed n s (i + 1)
    unfolding or_else unless
    passed_one lt t = record { within = omega arith; same = words_next lt ∙ rw (sym words_here ∙ t) }

  pub passed_all : n ≤ i → bad_words n s 0 ≡ None
  unfolding bad_words
  passed_all l = let e : n - i ≡ 0 = omega arith in h.same ∙ rw e
