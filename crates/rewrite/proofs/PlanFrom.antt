-- The first record from a given one on that holds a plan: that record itself, or the first from the next one on; behind the last record none.
use Prim.Native.Nat.{ℕ, zero, suc, ◌+◌, ◌≤◌}
use native.Mathlib.Omega.{arith}
use mathlib.Core.Path.{◌≡◌, refl, sym, ap, ◌∙◌}
use mathlib.Core.Bool.{Bool, true, false}
use mathlib.Core.List.{List, [], ◌∷◌}
use mathlib.Core.Option.{Option, none, some}
use lib.ListN.{length, get_or}
use borrow.Author.Tests.{le-leb, lt-leb}
use Rattle.plan.specs.Syntax.{Plan}
use Rattle.plan.specs.Measure.{size_p}
use Rattle.rewrite.specs.RewriteAt.{Focus, focus}
use Rattle.rewrite.specs.PassByRecords.{first_from, plan_from}
use Rattle.rewrite.proofs.Marks.{plan_marks, marks_length, places, records_marks, is_some, focus_marks}

-- all places stand at `j` or behind
first_place : (bs : List Bool) (i j : ℕ) → i ≤ j → first_from i (places j bs) ≡ first_from j (places j bs)
unfolding first_from places
first_place [] i j h = refl
first_place (true ∷ bs) i j h = rw (le-leb i j h, le-leb j j (omega arith))
first_place (false ∷ bs) i j h = first_place bs i (suc j) (omega arith) ∙ sym (first_place bs j (suc j) (omega arith))

place_here : (bs : List Bool) (i n k : ℕ) → k ≡ i + n → get_or bs n false ≡ true → first_from k (places i bs) ≡ some k
unfolding first_from places
place_here [] i n k e h = cc
place_here (true ∷ bs) i zero k e h = let s : k ≡ i = omega arith in rw (s, le-leb i i (omega arith))
place_here (false ∷ bs) i zero k e h = cc
place_here (true ∷ bs) i (suc n) k e h = rw (lt-leb k i (omega arith)) (place_here bs (suc i) n k (omega arith) h)
place_here (false ∷ bs) i (suc n) k e h = place_here bs (suc i) n k (omega arith) h

place_later : (bs : List Bool) (i n k : ℕ) → k ≡ i + n → get_or bs n false ≡ false → first_from k (places i bs) ≡ first_from (suc k) (places i bs)
unfolding first_from places
place_later [] i n k e h = refl
place_later (true ∷ bs) i zero k e h = cc
place_later (false ∷ bs) i zero k e h = let s : suc k ≡ suc i = omega arith in rw s (first_place bs k (suc i) (omega arith))
place_later (true ∷ bs) i (suc n) k e h = rw (lt-leb k i (omega arith), lt-leb (suc k) i (omega arith)) (place_later bs (suc i) n k (omega arith) h)
place_later (false ∷ bs) i (suc n) k e h = place_later bs (suc i) n k (omega arith) h

no_place : (bs : List Bool) (i k : ℕ) → i + length bs ≤ k → first_from k (places i bs) ≡ none
unfolding first_from places
no_place [] i k h = refl
no_place (true ∷ bs) i k h = rw (lt-leb k i (omega arith)) (no_place bs (suc i) k (omega arith))
no_place (false ∷ bs) i k h = no_place bs (suc i) k (omega arith)

pub from_here : (n : ℕ) (p : Plan) (c : Focus) → focus n p ≡ some c → plan_from n p ≡ some n
unfolding plan_from
from_here n p c h = ap (first_from n) (records_marks p 0) ∙ place_here (plan_marks p) 0 n n (omega arith) (sym (focus_marks p n) ∙ ap is_some h)

pub from_later : (n : ℕ) (p : Plan) → focus n p ≡ none → plan_from n p ≡ plan_from (suc n) p
unfolding plan_from
from_later n p h =
    ap (first_from n) (records_marks p 0)
    ∙ place_later (plan_marks p) 0 n n (omega arith) (sym (focus_marks p n) ∙ ap is_some h)
    ∙ sym (ap (first_from (suc n)) (records_marks p 0))

pub from_end : (n : ℕ) (p : Plan) → size_p p ≤ n → plan_from n p ≡ none
unfolding plan_from
from_end n p h = ap (first_from n) (records_marks p 0) ∙ no_place (plan_marks p) 0 n (omega (arith, marks_length p))

-- no plan stands behind the last record
past_end : (bs : List Bool) (n : ℕ) → length bs ≤ n → get_or bs n false ≡ false
past_end [] n h = refl
past_end (b ∷ bs) zero h = absurd (omega arith)
past_end (b ∷ bs) (suc n) h = past_end bs n (omega arith)

is_none : (o : Option Focus) → is_some o ≡ false → o ≡ none
is_none none h = refl
is_none (some c) h = cc

pub focus_end : (n : ℕ) (p : Plan) → size_p p ≤ n → focus n p ≡ none
focus_end n p h = is_none (focus n p) (focus_marks p n ∙ past_end (plan_marks p) n (omega (arith, marks_length p)))
