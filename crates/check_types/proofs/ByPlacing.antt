-- Laws of types by place, and when two schemas have the same types.
--     seek_place                      the search for a place finds its type
--     other_width, other_type, same_all   when two schemas have the same types
--     united_none, united_rest        the inputs of a Union have the types of the first
--     all_not, all_more, all_skip     a record more among the inputs
-- Assumes nothing.
use mathlib.Core.Path.{◌≡◌, refl, sym, ap, subst, ◌∙◌}
use mathlib.Core.Bool.{Bool, true, false}
use mathlib.Core.List.{List, [], ◌∷◌}
use Prim.Native.Nat.{ℕ, zero, suc, ◌+◌, ◌-◌, ◌<◌}
use native.Mathlib.Omega.{arith}
use lib.Dec.{ltb}
use lib.ListN.{length}
use borrow.Author.Tests.{eq-eqb, ne_eqb, eqb-true, ltb-true, ltb-false}
use Rattle.check_fields.specs.declared.questions.Question.TheVariants.{Every}
use Rattle.image.specs.Tree.{Label, Forest, none, node}
use Rattle.plan.specs.Lists.{◌&◌, all}
use Rattle.plan.proofs.Lists.{and_intro, and_l, and_r}
use Rattle.plan.specs.Kinds.{is_plan}
use Rattle.plan.specs.Syntax.{Name, nm}
use Rattle.acceptance.specs.Types.{same_types}
use Rattle.check_fields.specs.Fields.{Schema, input, inputs}
use Rattle.check_fields.specs.Rules.{types_in, united}
use Rattle.check_fields.specs.Count.{hits, counted}
use Rattle.check_fields.specs.Seek.{seek, type_found}
use Rattle.check_fields.proofs.Counting.{plan_first, skip_part, counted_all}
use Rattle.check_types.specs.ByPlace.{ty_at}

-- ---- places

-- the search for a place among all fields finds its type
pub seek_place : (k : ℕ) (s : Schema) → type_found (seek (hits Every) k s) ≡ ty_at k s
unfolding seek ty_at
seek_place k [] = refl
seek_place zero (f ∷ s) = go f.name
  where
    go : (x : Name) → type_found (seek (hits Every) 0 (record { name = x; ty = f.ty } ∷ s)) ≡ f.ty
    go (nm r m) = refl
seek_place (suc k) (f ∷ s) = go f.name (seek_place k s)
  where
    back : suc k - 1 ≡ k
    back = omega arith

    go : (x : Name) → type_found (seek (hits Every) k s) ≡ ty_at k s
        → type_found (seek (hits Every) (suc k) (record { name = x; ty = f.ty } ∷ s)) ≡ ty_at k s
    go (nm r m) e = rw (ne_eqb (suc k) 0 (λ q. omega arith), back) e

-- ---- the same types

-- schemas with the same types have one width and one type at each place
same_true : (a b : Schema) → same_types (types_in a) (types_in b) ≡ true → (length a ≡ length b) × ((k : ℕ) → ty_at k a ≡ ty_at k b)
unfolding types_in ty_at
same_true [] [] e = (refl, λ k. refl)
same_true [] (g ∷ b) e = let z : ◌≡◌ {A = ℕ} 0 1 = cc in absurd (omega arith)
same_true (f ∷ a) [] e = let z : ◌≡◌ {A = ℕ} 0 1 = cc in absurd (omega arith)
same_true (f ∷ a) (g ∷ b) e = let h = same_true a b (and_r _ _ e) in (ap suc h.0, go h.1)
  where
    go : ((k : ℕ) → ty_at k a ≡ ty_at k b) → (k : ℕ) → ty_at k (f ∷ a) ≡ ty_at k (g ∷ b)
    go h zero = eqb-true f.ty g.ty (and_l _ _ e)
    go h (suc k) = h k

-- and the other way
same_from : (a b : Schema) → length a ≡ length b → ((k : ℕ) → k < length a → ty_at k a ≡ ty_at k b) → same_types (types_in a) (types_in b) ≡ true
unfolding types_in ty_at
same_from [] [] e h = refl
same_from [] (g ∷ b) e h = absurd (omega arith)
same_from (f ∷ a) [] e h = absurd (omega arith)
same_from (f ∷ a) (g ∷ b) e h = and_intro (eq-eqb f.ty g.ty (h 0 (omega arith))) (same_from a b (omega arith) (λ k l. h (suc k) (omega arith)))

-- what is not true is false
refuted : (x : Bool) → (x ≡ true → ⊥) → false ≡ x
refuted true n = absurd (n refl)
refuted false n = refl

module _ (a b : Schema) {n m : ℕ} (N : n ≡ counted (hits Every) a) (M : m ≡ counted (hits Every) b) where
  -- widths that differ
  pub other_width : (n ≡ m → ⊥) → false ≡ same_types (types_in a) (types_in b)
  other_width d = refuted _ (λ e. d (omega (arith, (same_true a b e).0, counted_all a, counted_all b)))

  -- one width, and one type at each place below it
  pub same_all : n ≡ m → ((k : ℕ) → k < n → ty_at k a ≡ ty_at k b) → true ≡ same_types (types_in a) (types_in b)
  same_all e h = sym (same_from a b (omega (arith, counted_all a, counted_all b)) (λ k l. h k (omega (arith, counted_all a))))

-- a place with two types
pub other_type : (a b : Schema) (k : ℕ) {x y : ℕ} → x ≡ ty_at k a → y ≡ ty_at k b → (x ≡ y → ⊥) → false ≡ same_types (types_in a) (types_in b)
other_type a b k p q d = refuted _ (λ e. d (p ∙ (same_true a b e).1 k ∙ sym q))

-- what holds below k and at k holds below k + 1
pub one_more : (P : ℕ → Type 0) (k : ℕ) → ((m : ℕ) → m < k → P m) → P k → (m : ℕ) → m < k + 1 → P m
one_more P k h p m l = go (ltb m k) refl
  where
    go : (b : Bool) → ltb m k ≡ b → P m
    go true e = h m (ltb-true m k e)
    go false e = let q : k ≡ m = omega (arith, ltb-false m k e) in subst P q p

-- ---- the inputs of a Union

-- there are none
pub united_none : (f : Forest) → f ≡ none → united (inputs f) ≡ true
unfolding united inputs
united_none f e = rw e

-- no inputs, no test
pub all_none : (t : Schema → Bool) (f : Forest) → f ≡ none → all t (inputs f) ≡ true
unfolding all inputs
all_none t f e = rw e

-- the first input, then the rest
cons_all : (t : Schema → Bool) (ins : List Schema) (g : Schema) (rest : List Schema) → ins ≡ g ∷ rest → all t ins ≡ t (input 0 ins) & all t rest
unfolding all input
cons_all t ins g rest e = rw e

module _ {f : Forest} {l : Label} {cs ns : Forest} (w : f ≡ node l cs ns) where
  -- the inputs after the first are compared with it
  pub united_rest : is_plan l ≡ true → united (inputs f) ≡ all (λ s. same_types (types_in s) (types_in (input 0 (inputs f)))) (inputs ns)
  unfolding united input
  united_rest z = rw (plan_first w z)

  module _ (t : Schema → Bool) where
    -- the first tree is a plan
    all_plan : is_plan l ≡ true → all t (inputs f) ≡ t (input 0 (inputs f)) & all t (inputs ns)
    all_plan z = cons_all t (inputs f) _ _ (plan_first w z)

    -- which fails
    pub all_not : is_plan l ≡ true → t (input 0 (inputs f)) ≡ false → all t (inputs f) ≡ false
    unfolding ◌&◌
    all_not z e = all_plan z ∙ rw e

    -- which passes
    pub all_more : is_plan l ≡ true → t (input 0 (inputs f)) ≡ true → all t (inputs f) ≡ all t (inputs ns)
    unfolding ◌&◌
    all_more z e = all_plan z ∙ rw e

    -- it is none
    pub all_skip : is_plan l ≡ false → all t (inputs f) ≡ all t (inputs ns)
    all_skip z = ap (all t) (skip_part w z)
