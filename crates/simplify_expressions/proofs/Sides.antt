-- Laws of sides, for walks along a list of bounds.
--     best_next, better_new, better_old     one more bound, and the better of two by their indices
--     kind_here, kind_past      one more literal's kind
--     spelled_all, best-is      what `most_restrictive` comes to, as expressions
-- Assumes nothing.
use mathlib.Core.Path.{◌≡◌, refl}
use mathlib.Core.Bool.{Bool, true, false, ◌&&◌}
use mathlib.Core.List.{List, [], ◌∷◌, map}
use Prim.Native.Nat.{ℕ, suc, ◌+◌, ◌<◌}
use native.Mathlib.Omega.{arith}
use lib.IntN.{ℤ}
use lib.ListN.{length, get_or, drop}
use Rattle.plan.specs.Syntax.{Expr}
use Rattle.plan.specs.Lists.{◌&◌, choose, all}
use Rattle.meaning.specs.Meaning.{is_n, kind_of}
use Rattle.rewrite.specs.SimplifyPredicates.{Side, val, find_most_restrictive_predicate, is_better, stronger, first_kind, of_kind, most_restrictive}
use Rattle.conjuncts.specs.Items.{FALSE}
use Rattle.conjuncts.proofs.Listed.{next}
use Rattle.simplify_expressions.specs.Seen.{side_in, Spelled}

pub and_is : (a b : Bool) → a & b ≡ (a && b)
unfolding ◌&◌
and_is true b = refl
and_is false b = refl

-- one more bound
pub best_next : (past : ℤ → ℤ → Bool) (held : Side) (es : List Expr) (i : ℕ) → i < length es
    → find_most_restrictive_predicate past held (map side_in (drop i es))
    ≡ find_most_restrictive_predicate past (stronger past held (side_in (get_or es i FALSE))) (map side_in (drop (i + 1) es))
best_next past held es i h = rw (next es i h)

-- the better of two, by their indices
module _ (past : ℤ → ℤ → Bool) (es : List Expr) (best i : ℕ) {held d : Side} {v : Bool} (e : v ≡ is_better past held d)
    (h : held ≡ side_in (get_or es best FALSE)) (k : d ≡ side_in (get_or es i FALSE)) where
  pub better_new : v ≡ true → stronger past (side_in (get_or es best FALSE)) (side_in (get_or es i FALSE)) ≡ side_in (get_or es i FALSE)
  unfolding choose
  better_new t = rw (← h, ← k, ← e, t)

  pub better_old : v ≡ false → stronger past (side_in (get_or es best FALSE)) (side_in (get_or es i FALSE)) ≡ side_in (get_or es best FALSE)
  unfolding choose
  better_old t = rw (← h, ← k, ← e, t)

-- ---- kinds

-- the side d stands at i: NULL or not
module _ (es : List Expr) (i : ℕ) (h : i < length es) {d : Side} (e : d ≡ side_in (get_or es i FALSE)) where
  pub kind_here : false ≡ is_n (val d) → kind_of (val d) ≡ first_kind (map side_in (drop i es))
  kind_here n = rw (next es i h, ← e, ← n)

  pub kind_past : true ≡ is_n (val d) → first_kind (map side_in (drop i es)) ≡ first_kind (map side_in (drop (i + 1) es))
  kind_past n = rw (next es i h, ← e, ← n)

-- ---- the bounds as expressions

-- all of a list
pub spelled_all : (spell : Side → Expr) (es : List Expr) → Spelled spell es → map spell (map side_in es) ≡ es
spelled_all spell [] h = refl
spelled_all spell (e ∷ es) h = rw (h 0 (omega arith), spelled_all spell es (λ i lt. h (suc i) (omega arith)))

-- none of an empty list
pub restrict_none : (past : ℤ → ℤ → Bool) (spell : Side → Expr) (es : List Expr) → length es ≡ 0
    → map spell (most_restrictive past (map side_in es)) ≡ []
restrict_none past spell [] h = refl
restrict_none past spell (e ∷ es) h = absurd (omega arith)

-- the best, where all are of one kind
pub restrict_one : (past : ℤ → ℤ → Bool) (spell : Side → Expr) (es : List Expr) (best : ℕ) → 0 < length es → best < length es → Spelled spell es
    → true ≡ all (of_kind (first_kind (map side_in es))) (map side_in es)
    → side_in (get_or es best FALSE) ≡ find_most_restrictive_predicate past (side_in (get_or es 0 FALSE)) (map side_in (drop 1 es))
    → map spell (most_restrictive past (map side_in es)) ≡ get_or es best FALSE ∷ []
unfolding choose
restrict_one past spell [] best pos lt h k e = absurd (omega arith)
restrict_one past spell (x ∷ es) best pos lt h k e = rw (← k, ← e, h best lt)

-- all of them, where they are not
pub restrict_all : (past : ℤ → ℤ → Bool) (spell : Side → Expr) (es : List Expr) → 0 < length es → Spelled spell es
    → false ≡ all (of_kind (first_kind (map side_in es))) (map side_in es)
    → map spell (most_restrictive past (map side_in es)) ≡ es
unfolding choose
restrict_all past spell [] pos h k = absurd (omega arith)
restrict_all past spell (x ∷ es) pos h k = rw (← k) (spelled_all spell (x ∷ es) h)
