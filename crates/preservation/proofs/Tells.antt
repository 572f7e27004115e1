-- A Boolean test and the statement that it decides.
use mathlib.Core.Path.{◌≡◌, refl}
use mathlib.Core.Logic.{◌↔◌}
use mathlib.Core.Bool.{Bool, true}
use mathlib.Core.List.{List, [], ◌∷◌}
use Rattle.plan.specs.Lists.{◌&◌, all}
use Rattle.plan.proofs.Lists.{and_l, and_r, and_intro}
use Rattle.plan.specs.Integers.{Every}

-- the test passes if and only if the statement holds
abbrev pub Tells : Bool → Type 0 → Type 0
Tells b P = (b ≡ true) ↔ P

pub tells_nothing : Tells true (Unit {0})
tells_nothing = (λ h. tt, λ h. refl)

module _ {a b : Bool} {A B : Type 0} where
  pub both : Tells a A → Tells b B → Tells (a & b) (A × B)
  both f g = (λ h. (f.0 (and_l _ _ h), g.0 (and_r _ _ h)), λ h. and_intro (f.1 h.0) (g.1 h.1))

  module _ {c : Bool} {C : Type 0} where
    pub three : Tells a A → Tells b B → Tells c C → Tells (a & (b & c)) (A × B × C)
    three f g k = (
      (λ h. (f.0 (and_l _ _ h), g.0 (and_l _ _ (and_r _ _ h)), k.0 (and_r _ _ (and_r _ _ h)))),
      (λ h. and_intro (f.1 h.0) (and_intro (g.1 h.1) (k.1 h.2))),
    )

    pub four : {d : Bool} {D : Type 0} → Tells a A → Tells b B → Tells c C → Tells d D → Tells (a & (b & (c & d))) (A × B × C × D)
    four f g k m = (
      (λ h. let r = and_r _ _ (and_r _ _ h) in (f.0 (and_l _ _ h), g.0 (and_l _ _ (and_r _ _ h)), k.0 (and_l _ _ r), m.0 (and_r _ _ r))),
      (λ h. and_intro (f.1 h.0) (and_intro (g.1 h.1) (and_intro (k.1 h.2) (m.1 h.3)))),
    )

module _ {A : Type 0} (t : A → Bool) (P : A → Type 0) (f : (x : A) → Tells (t x) (P x)) where
  pub every : (xs : List A) → Tells (all t xs) (Every P xs)
  unfolding all
  every [] = tells_nothing
  every (x ∷ xs) = both (f x) (every xs)
