-- A step of a loop over siblings: the number of the tree that is next.
-- Assumes nothing.
use mathlib.Core.Path.{◌≡◌, sym, ap, ◌∙◌}
use mathlib.Core.List.{List, [], ◌∷◌}
use Prim.Native.Nat.{ℕ, ◌+◌}
use Rattle.image.specs.Tree.{Forest, none, node, Linked, size, link}
use Rattle.image.specs.Places.{start}
use Rattle.image.specs.Subtrees.{Place, forest, tree_of, place, places, places_from}
use Rattle.image.specs.declared.trees.Stretch.{Stretch}
use Rattle.image.specs.declared.trees.Stretches.{Stretches}
use Rattle.image.proofs.Subtrees.{goes}

-- a list without its first place, and the number of the first
rest_of : List Place → List Place
rest_of [] = []
rest_of (p ∷ ps) = ps

number_or : ℕ → List Place → ℕ
number_or n [] = n
number_or n (p ∷ ps) = p.number

-- the same places of a forest have the same numbers
same_number : (f : Forest) (s r z : List ℕ) (a c b m n : ℕ) → places_from s a m f ≡ places_from r c n f → Linked f z b n → n ≡ link m f
unfolding places_from number_or
same_number none s r z a c b m n e h = h
same_number (node l cs ns) s r z a c b m n e h = sym (ap (number_or 0) e)

-- the trees after the first begin where it ends
pub next_is : {N : ℕ} (x y : Stretches N) (t : Stretch N) → places x ≡ place t ∷ places y → y.first ≡ link (x.first + 1 + size (tree_of t).below) (forest y)
unfolding places_from rest_of
next_is {N} x y t e =
    let g = goes x y t e in
    let s = x.image.now in
    let b = start N x.base in
    let left : places_from s b (x.first + 1 + size (tree_of t).below) (forest y) ≡ places y =
    ap rest_of (sym (ap (places_from s b x.first) g.is) ∙ e) in
    same_number (forest y) _ _ _ _ _ _ _ _ left y.chained.linked
