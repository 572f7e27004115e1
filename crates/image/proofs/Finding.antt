-- A turn of a walk that looks for the lowest record that breaks a rule. For any rule.
-- Assumes nothing.
use mathlib.Core.Path.{◌≡◌, refl, sym, ap, ◌∙◌}
use mathlib.Core.Bool.{Bool, true, false}
use Prim.Native.Nat.{ℕ, ◌+◌}
use native.Mathlib.Omega.{arith}
use Rattle.image.specs.Tree.{Label, Forest, none, node, Tree, size, link}
use Rattle.std.specs.Prelude.{None, Some, is_some}
use Rattle.image.specs.Lowest.{Found, or_else, unless, lowest, alone}
use Rattle.image.proofs.Lowest.{lowest_link, lowest_none}

-- nothing found after
pub or_nothing : (g : Found) → or_else g None ≡ g
unfolding or_else
or_nothing None = refl
or_nothing (Some r) = refl

-- ---- any rule

module _ {C : Type 0} (rule : C → Label → Forest → Bool) (hand : C → Label → Forest → C × C) where
  -- the record, its children with what it hands down, its siblings; a and b are the links to them
  pub lowest_at : (c after : C) (at a b : ℕ) (l : Label) (cs ns : Forest) (x y : C)
      → a ≡ link (at + 1) cs → b ≡ link (at + 1 + size cs) ns → hand c l cs ≡ (x, y)
      → lowest rule hand c after at (node l cs ns) ≡ or_else (unless (rule c l cs) at)
      (or_else (lowest rule hand x y a cs) (lowest rule hand after after b ns))
  unfolding lowest
  lowest_at c after at a b l cs ns x y e g h =
      rw (h, e, g, lowest_link rule hand x y (at + 1) cs, lowest_link rule hand after after (at + 1 + size cs) ns)

  -- of no records none is found
  pub place_none : (c after : C) (at : ℕ) (f : Forest) → f ≡ none → None ≡ lowest rule hand c after at f
  place_none c after at f e = sym (lowest_none rule hand c after at f e)

  -- f's first record is `at`, and a and b are the links to what is below it and after it
  module _ (at : ℕ) {f : Forest} {a b : ℕ} {l : Label} {cs ns : Forest} (is : f ≡ node l cs ns) (first : a ≡ link (at + 1) cs)
      (next : b ≡ link (at + 1 + size cs) ns) (c after x y : C) (h : hand c l cs ≡ (x, y)) {t : Bool} (T : t ≡ rule c l cs) where
    -- the turn, by the rule's answer
    turned : lowest rule hand c after at f
        ≡ or_else (unless t at) (or_else (lowest rule hand x y a cs) (lowest rule hand after after b ns))
    turned =
        ap (lowest rule hand c after at) is ∙ lowest_at c after at a b l cs ns x y first next h
        ∙ ap (λ (k : Bool). or_else (unless k at) (or_else (lowest rule hand x y a cs) (lowest rule hand after after b ns))) (sym T)

    -- the rule does not hold of the record
    pub place_here : t ≡ false → Some at ≡ lowest rule hand c after at f
    unfolding or_else unless
    place_here e = let z : lowest rule hand c after at f ≡ Some at = turned ∙ rw e in sym z

    -- it holds, and not of a record below
    pub place_below : t ≡ true → (g : Found) → is_some g ≡ true → g ≡ lowest rule hand x y a cs → g ≡ lowest rule hand c after at f
    unfolding or_else unless
    place_below e None z g = let k : ◌≡◌ {A = ℕ} 0 1 = cc in absurd (omega arith)
    place_below e (Some r) z g = let k : lowest rule hand c after at f ≡ Some r = turned ∙ rw (e, sym g) in sym k

    -- it holds, and of all below: the walk goes on
    pub place_after : t ≡ true → (g : Found) → is_some g ≡ false → g ≡ lowest rule hand x y a cs
        → lowest rule hand after after b ns ≡ lowest rule hand c after at f
    unfolding or_else unless
    place_after e (Some r) z g = let k : ◌≡◌ {A = ℕ} 0 1 = cc in absurd (omega arith)
    place_after e None z g =
        let k : lowest rule hand c after at f ≡ lowest rule hand after after b ns = turned ∙ rw (e, sym g) in
        sym k

  -- the root
  module _ (c after : C) (t : Tree) where
    pub root_here : rule c t.label t.below ≡ false → Some 0 ≡ lowest rule hand c after 0 (alone t)
    unfolding lowest or_else unless
    root_here e = rw e

    pub root_below : (x y : C) (first : ℕ) → first ≡ link 1 t.below → hand c t.label t.below ≡ (x, y)
        → rule c t.label t.below ≡ true
        → (lowest rule hand x y first t.below) ≡ lowest rule hand c after 0 (alone t)
    unfolding or_else unless lowest
    root_below x y first g h e =
        let z : lowest rule hand c after 0 (alone t) ≡ lowest rule hand x y first t.below
        =
        lowest_at c after 0 first 0 t.label t.below none x y g refl h
        ∙ rw (e, or_nothing (lowest rule hand x y first t.below)) in
        sym z
