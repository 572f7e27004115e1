-- The records of a run of parts.
use Prim.Native.Nat.{ℕ, ◌+◌}
use native.Mathlib.Omega.{arith}
use mathlib.Core.Path.{◌≡◌, refl, sym, ap, ◌∙◌}
use mathlib.Core.List.{List, [], ◌∷◌, ◌++◌, append_assoc}
use lib.ListN.{length, length-append}
use Rattle.image.specs.Tree.{Label, Forest, none}
use Rattle.image.specs.Records.{recs_any}
use Rattle.image.proofs.Relinking.{recs_any_length}
use Rattle.plan.specs.Measure.{sizes}
use Rattle.plan.specs.Trees.{each}

-- a run of parts, and then the records of the rest
pub run_recs : {A : Type 0} (l : A → Label) (k : A → Forest) (xs : List A) (d : ℕ) (ns : Forest) → recs_any d (each l k xs ns) ≡ recs_any d
    (each l k xs none) ++ recs_any d ns
unfolding each
run_recs l k [] d ns = refl
run_recs l k (x ∷ xs) d ns =
    ap (λ t. (l x, d) ∷ (recs_any (d + 1) (k x) ++ t)) (run_recs l k xs d ns)
    ∙ ap (λ t. (l x, d) ∷ t) (sym (append_assoc (recs_any (d + 1) (k x)) (recs_any d (each l k xs none)) (recs_any d ns)))

pub run_count : {A : Type 0} (l : A → Label) (k : A → Forest) (xs : List A) (d : ℕ) → length (recs_any d (each l k xs none)) ≡ sizes k xs
unfolding each sizes
run_count l k [] d = refl
run_count l k (x ∷ xs) d =
    omega (arith, length-append (recs_any (d + 1) (k x)) (recs_any d (each l k xs none)), recs_any_length (d + 1) (k x), run_count l k xs d)
