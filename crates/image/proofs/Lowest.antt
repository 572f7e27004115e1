-- Laws of `lowest`, the lowest record of a forest that breaks a rule.
--     Passes, passes, finds_nothing   it finds nothing if and only if the rule holds of all records
--     lowest_is                       it is the first, by number, of which the rule does not hold
--     lowest_link, lowest_none        by the link to a forest; of no records
-- Assumes nothing.
use mathlib.Core.Path.{◌≡◌, refl}
use mathlib.Core.Bool.{Bool, true, false}
use mathlib.Core.List.{List, [], ◌∷◌, ◌++◌}
use Prim.Native.Nat.{ℕ, suc, ◌+◌}
use native.Mathlib.Omega.{arith}
use lib.ListN.{length, length-append}
use Rattle.image.specs.Tree.{Label, Forest, none, node, size, link}
use Rattle.std.specs.Prelude.{None, Some}
use Rattle.image.specs.Lowest.{first_false, Found, or_else, unless, lowest}

-- ---- nothing found

-- where both find nothing, the first does
pub or_first : (f g : Found) → or_else f g ≡ None → f ≡ None
unfolding or_else
or_first None g h = refl
or_first (Some r) g h = h

-- where both find nothing, the second does
pub or_second : (f g : Found) → or_else f g ≡ None → g ≡ None
unfolding or_else
or_second None g h = h
or_second (Some r) g h = let z : ◌≡◌ {A = ℕ} 0 1 = cc in absurd (omega arith)

-- a record is not found only where its rule holds
pub unless_true : (b : Bool) (r : ℕ) → unless b r ≡ None → b ≡ true
unfolding unless
unless_true true r h = refl
unless_true false r h = let z : ◌≡◌ {A = ℕ} 0 1 = cc in absurd (omega arith)

-- a rule, and what is handed down
module _ {C : Type 0} (rule : C → Label → Forest → Bool) (hand : C → Label → Forest → C × C) where
  -- the rule holds of all records
  abbrev pub Passes : C → C → Forest → Type 0
  Passes c after none = Unit {0}
  Passes c after (node l cs ns) = (rule c l cs ≡ true) × Passes (hand c l cs).0 (hand c l cs).1 cs × Passes after after ns

  -- where none is found, all pass
  pub passes : (c after : C) (b : ℕ) (f : Forest) → lowest rule hand c after b f ≡ None → Passes c after f
  unfolding lowest
  passes c after b none h = tt
  passes c after b (node l cs ns) h = (
    unless_true _ b (or_first _ _ h),
    passes (hand c l cs).0 (hand c l cs).1 (b + 1) cs (or_first _ _ (or_second _ _ h)),
    passes after after (b + 1 + size cs) ns (or_second _ _ (or_second _ _ h)),
  )

  -- where all pass, none is found
  pub finds_nothing : (c after : C) (b : ℕ) (f : Forest) → Passes c after f → lowest rule hand c after b f ≡ None
  unfolding lowest or_else unless
  finds_nothing c after b none h = refl
  finds_nothing c after b (node l cs ns) h =
      rw (h.0, finds_nothing (hand c l cs).0 (hand c l cs).1 (b + 1) cs h.1, finds_nothing after after (b + 1 + size cs) ns h.2)

  -- ---- the first of a list

  -- whether the rule holds, record by record
  abbrev pub marks : C → C → Forest → List Bool
  marks c after none = []
  marks c after (node l cs ns) = rule c l cs ∷ (marks (hand c l cs).0 (hand c l cs).1 cs ++ marks after after ns)

  -- there is one mark for each record
  pub marks_length : (c after : C) (f : Forest) → length (marks c after f) ≡ size f
  marks_length c after none = refl
  marks_length c after (node l cs ns) =
      simp length-append (omega (arith, marks_length (hand c l cs).0 (hand c l cs).1 cs, marks_length after after ns))

-- three searches, grouped either way
pub or_assoc : (f g h : Found) → or_else (or_else f g) h ≡ or_else f (or_else g h)
unfolding or_else
or_assoc None g h = refl
or_assoc (Some r) g h = refl

-- the first false of two lists, one after the other
false_append : (b : ℕ) (xs ys : List Bool) → first_false b (xs ++ ys) ≡ or_else (first_false b xs) (first_false (b + length xs) ys)
unfolding first_false or_else
false_append b [] ys = let e : b + 0 ≡ b = omega arith in rw e
false_append b (x ∷ xs) ys =
    let e : b + 1 + length xs ≡ b + suc (length xs) = omega arith in
    rw (false_append (b + 1) xs ys, e, or_assoc)

-- the same again
module _ {C : Type 0} (rule : C → Label → Forest → Bool) (hand : C → Label → Forest → C × C) where
  -- `lowest` is what its name says: the first of the forest's records, by number, of which the rule does not hold
  pub lowest_is : (c after : C) (b : ℕ) (f : Forest) → lowest rule hand c after b f ≡ first_false b (marks rule hand c after f)
  unfolding first_false lowest
  lowest_is c after b none = refl
  lowest_is c after b (node l cs ns) =
      let ms = marks rule hand (hand c l cs).0 (hand c l cs).1 cs in
      rw (
        false_append (b + 1) ms (marks rule hand after after ns),
        marks_length rule hand (hand c l cs).0 (hand c l cs).1 cs,
        lowest_is (hand c l cs).0 (hand c l cs).1 (b + 1) cs,
        lowest_is after after (b + 1 + size cs) ns,
      )

  -- ---- a turn of a walk

  -- the link to a forest may stand for its first number
  pub lowest_link : (c after : C) (m : ℕ) (f : Forest) → lowest rule hand c after (link m f) f ≡ lowest rule hand c after m f
  unfolding lowest
  lowest_link c after m none = refl
  lowest_link c after m (node l cs ns) = refl

  -- of no records none is found
  pub lowest_none : (c after : C) (b : ℕ) (f : Forest) → f ≡ none → lowest rule hand c after b f ≡ None
  unfolding lowest
  lowest_none c after b f e = rw e
