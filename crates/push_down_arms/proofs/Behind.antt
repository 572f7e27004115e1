-- A loop over siblings: where the first is, and where those behind it are; how deep they are.
-- Assumes nothing.
use mathlib.Core.Path.{◌≡◌, sym, ap, subst, ◌∙◌}
use mathlib.Core.List.{List, [], ◌∷◌}
use Prim.Native.Nat.{ℕ, ◌+◌, ◌-◌, ◌<◌}
use native.Mathlib.Omega.{arith}
use Rattle.image.specs.Limits.{max_below}
use Rattle.image.specs.Tree.{Label, Forest, none, node, Linked, Deep, size, link}
use Rattle.image.specs.Places.{start}
use Rattle.image.specs.declared.trees.Stretch.{Stretch}
use Rattle.image.specs.declared.trees.Stretches.{Stretches}
use Rattle.image.specs.Subtrees.{Siblings, Subtree, Place, forest, place, places, places_from, tree_of}
use Rattle.image.proofs.Subtrees.{goes}
use Rattle.push_down_base.proofs.Steps.{deep_more}

behind : List Place → List Place
behind [] = []
behind (p ∷ ps) = ps

number_or : ℕ → List Place → ℕ
number_or n [] = n
number_or n (p ∷ ps) = p.number

-- the same trees at two places are at one
one_place : (s s' : List ℕ) (b c m n : ℕ) (f : Forest) → places_from s b m f ≡ places_from s' c n f → Linked f s' c n → n ≡ link m f
unfolding places_from number_or
one_place s s' b c m n none e h = h
one_place s s' b c m n (node l cs ns) e h = sym (ap (number_or 0) e)

-- they begin behind the records of the first
pub goes_next : {N : ℕ} (x y : Stretches N) (t : Stretch N) → places x ≡ place t ∷ places y → y.first ≡ link (x.first + 1 + size (tree_of t).below) (forest y)
unfolding places_from behind
goes_next {N} x y t e =
    let g = goes x y t e in
    let all : places x ≡ places_from x.image.now (start N x.base) x.first (node (tree_of t).label (tree_of t).below (forest y)) =
    ap (places_from x.image.now (start N x.base) x.first) g.is in
    one_place x.image.now y.image.now (start N x.base) (start N y.base) (x.first + 1 + size (tree_of t).below) y.first (forest y) (ap behind (sym all ∙ e)) y.chained.linked

-- the first is not the image's first record
pub goes_past : (x y : Siblings) (t : Subtree) → places x ≡ place t ∷ places y → 0 < t.number
goes_past x y t e =
    let g = goes x y t e in
    let k = subst (λ (f : Forest). Linked f x.image.now 0 x.first) g.is x.chained.linked in omega (arith, k.0, g.number)

-- they are no deeper than all
pub deep_goes : {f : Forest} {l : Label} {cs ns : Forest} → f ≡ node l cs ns → Deep f max_below → Deep cs max_below × Deep ns max_below
deep_goes {cs = cs} e h =
    let k = subst (λ (g : Forest). Deep g max_below) e h in (deep_more cs (max_below - 1) max_below k.1 (omega arith), k.2)
