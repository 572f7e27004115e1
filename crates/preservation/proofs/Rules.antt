-- A rule of records, as a test of all records of a forest.
use mathlib.Core.Path.{◌≡◌, refl, sym, ap, ap₂, ◌∙◌}
use mathlib.Core.Bool.{Bool, true}
use mathlib.Core.List.{List, [], ◌∷◌}
use Rattle.image.specs.Tree.{Label, Forest, none, node}
use Rattle.plan.specs.Lists.{◌&◌, all}
use Rattle.plan.proofs.Lists.{and_assoc, true_and}
use Rattle.plan.specs.Trees.{each}

-- a test that passes, in front of another
pub passed : {a b : Bool} → a ≡ true → a & b ≡ b
passed {b = b} h = ap (◌& b) h ∙ true_and b

-- a record's test, those below it and those beside it
pub below : (x : Bool) {l m k t : Bool} → l ≡ m → k ≡ t → l & (k & x) ≡ (m & t) & x
below x {m = m} {t = t} g h = ap₂ (λ y z. y & (z & x)) g h ∙ sym (and_assoc m t x)

-- a test, and what is beside it by what that is
pub beside : {s x y : Bool} (c : Bool) → s ≡ c & x → x ≡ y → s ≡ c & y
beside c h k = h ∙ ap (c &◌) k

module _ (rule : Label → Forest → Bool) where
  -- the rule holds of all records
  unfoldable pub sound : Forest → Bool
  sound none = true
  sound (node l cs ns) = rule l cs & (sound cs & sound ns)

  -- of a run of parts, by what it says of a part with all below it
  module _ {A : Type 0} (l : A → Label) (k : A → Forest) (t : A → Bool) (is : (x : A) → rule (l x) (k x) & sound (k x) ≡ t x) where
    pub sound_each : (xs : List A) (ns : Forest) → sound (each l k xs ns) ≡ all t xs & sound ns
    unfolding sound each all ◌&◌
    sound_each [] ns = refl
    sound_each (x ∷ xs) ns =
        sym (and_assoc (rule (l x) (k x)) (sound (k x)) (sound (each l k xs ns)))
        ∙ ap₂ ◌&◌ (is x) (sound_each xs ns)
        ∙ sym (and_assoc (t x) (all t xs) (sound ns))
