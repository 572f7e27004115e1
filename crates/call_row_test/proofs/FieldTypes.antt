-- The types of a schema's fields, by place.
--     types_length    there are as many as fields
--     by_place        what holds the type of each field by its place holds the types
--     placed          one place more
-- Assumes nothing.
use mathlib.Core.Path.{◌≡◌, refl, ap, ◌∙◌}
use mathlib.Core.List.{List, [], ◌∷◌}
use Prim.Native.Nat.{ℕ, zero, suc, ◌+◌, ◌≤◌, ◌<◌}
use native.Mathlib.Omega.{arith}
use lib.ListN.{length, get_or, take, set, length-take}
use lib.Seq.{ext_get_or, get_or-take, get_or-set_same, get_or-set_other}
use Rattle.check_fields.specs.Fields.{Schema}
use Rattle.check_fields.specs.Rules.{types_in}
use Rattle.check_types.specs.ByPlace.{ty_at}
use Rattle.check_types.proofs.ByPlacing.{one_more}

type_get : (k : ℕ) (s : Schema) → ty_at k s ≡ get_or (types_in s) k 0
unfolding ty_at types_in
type_get k [] = refl
type_get zero (f ∷ s) = refl
type_get (suc k) (f ∷ s) = type_get k s

pub types_length : (s : Schema) → length (types_in s) ≡ length s
unfolding types_in
types_length [] = refl
types_length (f ∷ s) = ap suc (types_length s)

-- what holds the type of each field by its place holds the types
pub by_place : (s : Schema) (xs : List ℕ) (n : ℕ) → length s ≡ n → n ≤ length xs → ((k : ℕ) → k < n → get_or xs k 0 ≡ ty_at k s)
    → take n xs ≡ types_in s
by_place s xs n e l h =
    ext_get_or 0 (take n xs) (types_in s) (rw length-take (omega (arith, types_length s)))
    (λ i j. let k : i < n = omega (arith, length-take n xs) in get_or-take n xs i 0 k ∙ h i k ∙ type_get i s)

pub placed : (s : Schema) (xs : List ℕ) (n : ℕ) {v : ℕ} → n < length xs → ((k : ℕ) → k < n → get_or xs k 0 ≡ ty_at k s) → v ≡ ty_at n s
    → (k : ℕ) → k < n + 1 → get_or (set xs n v) k 0 ≡ ty_at k s
placed s xs n {v} l h e = one_more (λ k. get_or (set xs n v) k 0 ≡ ty_at k s) n
    (λ k m. get_or-set_other xs n k v 0 (λ q. absurd (omega arith)) ∙ h k m) (get_or-set_same xs n v 0 l ∙ e)
