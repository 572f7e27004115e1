-- When two predicates of an image are found equal: their records agree, word by word, as many as they have. That this is equality of
-- their trees is proved in proofs/Agreeing.antt.
use Rattle.std.specs.Prelude.{Bool, true, ◌&&◌, cond, List, ℕ, zero, suc, ◌-◌, eqb, drop}
use Rattle.image.specs.Word.{word}
use Rattle.image.specs.Tree.{label_at}
use Rattle.conjuncts.specs.Equality.{same_label}

-- a link: 0, or counted from its predicate's top
abbrev pub counted : ℕ → ℕ → ℕ
counted top link = cond (eqb link 0) 0 (link - top)

-- the links at byte `at` of the records at the start of s and of v are the same, each counted from its own top, record n and record m
abbrev pub same_link : ℕ → ℕ → List ℕ → ℕ → List ℕ → Bool
same_link at n s m v = eqb (counted n (word s at)) (counted m (word v at))

-- these records agree in all words but next
unfoldable pub alike : ℕ → List ℕ → ℕ → List ℕ → Bool
alike n s m v = same_label (label_at s) (label_at v) && same_link 24 n s m v

-- k records from the start of s and of v on agree in all words
unfoldable pub agreeing : ℕ → ℕ → List ℕ → ℕ → List ℕ → Bool
agreeing zero n s m v = true
agreeing (suc k) n s m v = (alike n s m v && same_link 28 n s m v) && agreeing k n (drop 32 s) m (drop 32 v)

-- two predicates agree: that of k records from the start of s on, whose top is record n, and that of j records from the start of v on, whose
-- top is record m; the next of a top, which leads out of its predicate, is not compared
unfoldable pub agree : ℕ → ℕ → List ℕ → ℕ → ℕ → List ℕ → Bool
agree k n s j m v = eqb k j && (alike n s m v && agreeing (k - 1) n (drop 32 s) m (drop 32 v))
