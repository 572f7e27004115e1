-- Laws of patterns of children.
-- Assumes nothing.
use mathlib.Core.Path.{◌≡◌, refl, subst}
use mathlib.Core.Bool.{Bool, true, false, ◌&&◌}
use mathlib.Core.List.{List, [], ◌∷◌}
use Prim.Native.Nat.{ℕ, ◌-◌}
use native.Mathlib.Omega.{arith}
use lib.Dec.{eqb}
use borrow.Author.Tests.{eq-eqb, ne_eqb}
use Rattle.std.specs.Prelude.{Option, None, Some, ◌≤◌, ◌<◌, length, take, drop, slice_index_or}
use Rattle.image.specs.Tree.{Label, Forest, none, node, Linked}
use Rattle.image.specs.Subtrees.{forest}
use Rattle.image.specs.declared.trees.Stretches.{Stretches}
use lib.Seq.{take_all}
use Rattle.plan.specs.Lists.{◌&◌}
use Rattle.plan.specs.Form.{end, one, past, perhaps}
use Rattle.check_form.specs.declared.patterns.Item.{Item}
use Rattle.check_form.specs.Patterns.{Follows, Leads, meets}
use Rattle.plan.proofs.Bools.{both}

-- no trees are left where the first is record 0
end_linked : (f : Forest) (s : List ℕ) (b n : ℕ) → Linked f s b n → eqb n 0 ≡ end f
unfolding end
end_linked none s b n h = eq-eqb n 0 h
end_linked (node l cs ns) s b n h = ne_eqb n 0 (λ z. omega (arith, h.0))

pub ends : {N : ℕ} (x : Stretches N) → eqb x.first 0 ≡ end (forest x)
ends x = end_linked (forest x) _ _ _ x.chained.linked

-- ---- the first tree, by the sort

module _ (is : Label → Bool) {f : Forest} where
  pub one_none : f ≡ none → (rest : Forest → Bool) → one is rest f ≡ false
  unfolding one
  one_none e rest = rw e

  pub perhaps_none : f ≡ none → perhaps is f ≡ true
  unfolding perhaps
  perhaps_none e = rw e

  pub past_none : f ≡ none → past is f ≡ none
  unfolding past
  past_none e = rw e

  module _ {l : Label} {cs ns : Forest} (w : f ≡ node l cs ns) where
    pub one_yes : is l ≡ true → (rest : Forest → Bool) → one is rest f ≡ rest ns
    unfolding one ◌&◌
    one_yes t rest = rw (w, t)

    pub one_no : is l ≡ false → (rest : Forest → Bool) → one is rest f ≡ false
    unfolding one ◌&◌
    one_no t rest = rw (w, t)

    pub perhaps_one : {x y : Bool} → is l ≡ x → y ≡ end ns → (x && y) ≡ perhaps is f
    unfolding perhaps
    perhaps_one {x} t e = rw (w, t, e) (both x (end ns))

    pub past_stay : is l ≡ false → past is f ≡ f
    unfolding past
    past_stay t = rw (w, t)

    pub past_on : is l ≡ true → past is f ≡ past is ns
    unfolding past
    past_on t = rw (w, t)

-- ---- what follows

module _ {N : ℕ} {m : (Forest → Bool) → Forest → Bool} {f : Forest} {r : Option (Stretches N)} (k : Leads m f r) (rest : Forest → Bool) where
  -- it fails
  pub leads_nowhere : r ≡ None → m rest f ≡ false
  leads_nowhere e = (subst (Follows m f) e k.leads) rest

  -- or the rest of the pattern is for these trees
  pub leads_on : {x : Stretches N} → r ≡ Some x → m rest f ≡ rest (forest x)
  leads_on e = (subst (Follows m f) e k.leads) rest

-- ---- the items of a slice

pub meets_end : (items : List Item) (f : Forest) → length items < 1 → meets items f ≡ end f
unfolding meets
meets_end [] f l = refl
meets_end (x ∷ xs) f l = absurd (omega arith)

-- the first, and the rest as the code takes it
pub split_first : (items : List Item) (d : Item) {item : Item} → 1 ≤ length items → slice_index_or items 0 d ≡ item → (f : Forest)
    → meets items f ≡ meets (item ∷ take (length items - 1) (drop 1 items)) f
split_first [] d l e f = absurd (omega arith)
split_first (x ∷ xs) d l e f = let t : take (length (x ∷ xs) - 1) xs ≡ xs = take_all _ xs (omega arith) in rw (← e, t)
