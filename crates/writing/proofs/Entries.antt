-- Laws of looking an entry up.
--     Inside, ..                trees side by side stand in one image, behind a record
--     first_below, begins, ..   what is found, and how deep it may be written
--     first_plant, ..           the same of any tree that an entry begins with
-- Assumes nothing.
use mathlib.Core.Path.{◌≡◌, refl, sym, ap, subst, ◌∙◌}
use mathlib.Core.Bool.{Bool, true, false}
use mathlib.Core.List.{List, [], ◌∷◌}
use Prim.Native.Nat.{ℕ, ◌+◌, ◌-◌, ◌*◌, ◌<◌}
use native.Mathlib.Omega.{arith}
use lib.Dec.{eqb}
use lib.ListN.{drop}
use Rattle.image.specs.Tree.{Label, Forest, none, node, Tree, Deep, Linked, Stands, link, size}
use Rattle.std.specs.Iterator.{YieldsFirstBy}
use Rattle.std.specs.Prelude.{Option, Some, None}
use Rattle.image.specs.Room.{Low}
use Rattle.image.specs.Places.{pos, start}
use Rattle.image.specs.Subtrees.{Siblings, Subtree, Below, Place, forest, place, places, places_from, tree_of}
use Rattle.image.specs.declared.trees.Stretch.{Stretch}
use Rattle.image.specs.declared.trees.Stretches.{Stretches}
use Rattle.image.proofs.Subtrees.{goes, gone, pos_is}
use Rattle.writing.specs.Replaced.{Begins, Finds, LowOver, is_entry, either, lookup, value_for, first_or, plant, replaced, replaced_any}

deep_or : (t : Bool) (f g : Forest) (d : ℕ) → Deep f d → Deep g d → Deep (either t f g) d
deep_or true f g d h k = h
deep_or false f g d h k = k

deep_lookup : (f : Forest) (p q d : ℕ) → Deep f d → Deep (lookup f p q) (d - 1)
deep_lookup none p q d h = tt
deep_lookup (node e cs ns) p q d h = deep_or (is_entry e p q) cs (lookup ns p q) (d - 1) h.1 (deep_lookup ns p q d h.2)

-- ---- trees as the code has them

-- the trees of these places stand in the image s
abbrev pub Inside : List ℕ → List Place → Type 0
Inside s [] = Unit {0}
Inside s (p ∷ ps) = (p.image ≡ s) × Inside s ps

inside_from : (s : List ℕ) (b n : ℕ) (f : Forest) → Inside s (places_from s b n f)
unfolding places_from
inside_from s b n none = tt
inside_from s b n (node l cs ns) = (refl, inside_from s b (n + 1 + size cs) ns)

-- those of siblings do
pub inside : (x : Siblings) {s : List ℕ} → x.image.now ≡ s → Inside s (places x)
inside x e = subst (λ (z : List ℕ). Inside z (places x)) e (inside_from x.image.now _ x.first (forest x))

-- the first does, and so do the others
pub inside_step : (x y : Siblings) (t : Subtree) {s : List ℕ} → places x ≡ place t ∷ places y → Inside s (places x)
    → (t.image.now ≡ s) × Inside s (places y)
inside_step x y t {s} e h = subst (Inside s) e h

-- the trees of these places stand in the bytes s from record b on, behind record m
abbrev pub Behind : List ℕ → ℕ → ℕ → List Place → Type 0
Behind s b m [] = Unit {0}
Behind s b m (p ∷ ps) = (p.image ≡ s) × (p.base ≡ b) × (m < p.number) × Behind s b m ps

behind_from : (s : List ℕ) (b m n : ℕ) (f : Forest) → m < n → Behind s b m (places_from s b n f)
unfolding places_from
behind_from s b m n none lt = tt
behind_from s b m n (node l cs ns) lt = (refl, refl, lt, behind_from s b m (n + 1 + size cs) ns (omega arith))

-- those that are linked behind it do
behind_linked : (s : List ℕ) (b m n : ℕ) (f : Forest) → n ≡ link (m + 1) f → Behind s b m (places_from s b n f)
unfolding places_from
behind_linked s b m n none e = tt
behind_linked s b m n (node l cs ns) e = behind_from s b m n (node l cs ns) (omega arith)

-- those below a tree do
pub behind : {M : ℕ} (t : Stretch M) (x : Stretches M) → Below t x → Behind t.image.now (start M t.base) t.number (places x)
behind {M} t x w =
    subst (λ (s : List ℕ). Behind s (start M t.base) t.number (places x)) w.image
    (subst (λ (b : ℕ). Behind x.image.now b t.number (places x)) w.base
    (behind_linked x.image.now (start M x.base) t.number x.first (forest x) (w.first ∙ ap (link (t.number + 1)) (sym w.is))))

-- the first does, and so do the others
pub behind_step : {M : ℕ} (x y : Stretches M) (t : Stretch M) {s : List ℕ} {b m : ℕ} → places x ≡ place t ∷ places y → Behind s b m (places x)
    → (t.image.now ≡ s) × (start M t.base ≡ b) × (m < t.number) × Behind s b m (places y)
behind_step x y t {s} {b} {m} e h = subst (Behind s b m) e h

-- the first of the trees below a tree, behind the record at which the bytes begin
pub first_below : {M : ℕ} (t x : Stretch M) (cs y : Stretches M) → Below t cs → places cs ≡ place x ∷ places y
    → (x.image.now ≡ t.image.now) × (start M t.base < x.number) × ((tree_of t).below ≡ plant (tree_of x) (forest y))
first_below {M} t x cs y w e =
    let g = goes cs y x e in
    let here = subst (λ (f : Forest). Linked f cs.image.now (start M cs.base) cs.first) g.is cs.chained.linked in
    (g.image ∙ w.image, omega (arith, here.0, g.number, w.base), sym w.is ∙ g.is)

-- the first of the trees below an entry is its expression
pub begins : {M : ℕ} (map t x : Stretch M) (cs y : Stretches M) → Below t cs → t.image.now ≡ map.image.now → start M t.base ≡ start M map.base
    → map.number < t.number → places cs ≡ place x ∷ places y → Begins (tree_of t).below map x
begins {M} map t x cs y w i o lt e =
    let g = goes cs y x e in
    let b = first_below t x cs y w e in
    let is : (tree_of t).below ≡ node (tree_of x).label (tree_of x).below (forest y) = b.2 in
    let here = subst (λ (f : Forest). Linked f cs.image.now (start M cs.base) cs.first) g.is cs.chained.linked in
    let n : x.number ≡ t.number + 1 = g.number ∙ w.first ∙ ap (link (t.number + 1)) is in
    let d : cs.first - start M cs.base ≡ pos M map.base x.number = omega (arith, pos_is M map.base x.number, g.number, w.base, o) in
    record {
      image = b.0 ∙ i;
      base = g.base ∙ w.base ∙ o;
      past = omega (arith, n, lt);
      stands =
          rw (is, ← d) (subst (λ (s : List ℕ). Stands (node (tree_of x).label (tree_of x).below (forest y)) (drop (32 * (cs.first - start M cs.base)) s) x.number)
          (w.image ∙ i) (subst (λ (n : ℕ). Stands (node (tree_of x).label (tree_of x).below (forest y)) (drop (32 * (cs.first - start M cs.base)) cs.image.now) n) (sym g.number) here.1));
      others = forest y;
      is = is;
    }

-- .. or there is none
pub begins_of : {M : ℕ} (map t : Stretch M) (cs y : Stretches M) (r : Option (Stretch M)) → Below t cs → t.image.now ≡ map.image.now
    → start M t.base ≡ start M map.base → map.number < t.number → YieldsFirstBy place places cs r y → Finds (tree_of t).below map r
begins_of map t cs y (Some x) w i o lt e = begins map t x cs y w i o lt e
begins_of map t cs y None w i o lt e = sym w.is ∙ gone cs e.0

-- the first entry has the name
pub lookup_first : (l : Label) (cs ns : Forest) (p q : ℕ) {b : Bool} → b ≡ is_entry l p q → b ≡ true → lookup (node l cs ns) p q ≡ cs
lookup_first l cs ns p q e h = let t = sym e ∙ h in rw t

-- .. or it has not
pub lookup_next : (l : Label) (cs ns : Forest) (p q : ℕ) {b : Bool} → b ≡ is_entry l p q → b ≡ false → lookup (node l cs ns) p q ≡ lookup ns p q
lookup_next l cs ns p q e h = let t = sym e ∙ h in rw t

-- the first tree of what an entry has stands for the one that columns give way to
pub first_plant : {f others : Forest} {u : Tree} → f ≡ plant u others → (t : Tree) → first_or f t ≡ u
first_plant e t = rw e

pub replaced_plant : (e t u : Tree) {others : Forest} → value_for e t.label ≡ plant u others → u ≡ replaced e t
replaced_plant e t u h = sym (first_plant h (record { label = t.label; below = replaced_any e t.below }))

-- .. as the code finds it
pub first_found : {M : ℕ} {f : Forest} {map x : Stretch M} → Begins f map x → (t : Tree) → first_or f t ≡ tree_of x
first_found h t = first_plant h.is t

pub replaced_found : {M : ℕ} (e t : Tree) {map x : Stretch M} → Begins (value_for e t.label) map x → tree_of x ≡ replaced e t
replaced_found e t {x = x} h = replaced_plant e t (tree_of x) h.is

-- where nothing is found, the trees below are replaced
pub replaced_below : (e t : Tree) → value_for e t.label ≡ none → replaced e t ≡ record { label = t.label; below = replaced_any e t.below }
replaced_below e t h = ap (λ (f : Forest). first_or f (record { label = t.label; below = replaced_any e t.below })) h

-- ---- levels

-- it is less deep than the entries
pub deep_plant : (e : Tree) (l : Label) (u : Tree) {d : ℕ} {others : Forest} → Deep e.below d → value_for e l ≡ plant u others
    → (1 < d) × Deep u.below (d - 1 - 1)
deep_plant e l u {d} {others} h b =
    let v : Deep (value_for e l) (d - 1) = deep_or (eqb l.kind 1) (lookup e.below l.p l.q) none (d - 1) (deep_lookup e.below l.p l.q d h) tt in
    let k : Deep (node u.label u.below others) (d - 1) = subst (λ (g : Forest). Deep g (d - 1)) b v in
    (omega (arith, k.0), k.1)

-- it may be written in a column's place
pub low_plant : (e : Tree) (l : Label) (level : ℕ) (u : Tree) {f others : Forest}
    → LowOver (level + 1) e.below f → value_for e l ≡ plant u others → Low (level + 1) u.below
low_plant e l level u h b =
    let k = deep_plant e l u h.entries_deep b in record { depth = h.room - 1 - 1; deep = k.1; low = omega (arith, h.low, k.0) }

-- .. as the code finds it
pub deep_found : {M : ℕ} (e : Tree) (l : Label) {d : ℕ} {map x : Stretch M} → Deep e.below d → Begins (value_for e l) map x
    → (1 < d) × Deep (tree_of x).below (d - 1 - 1)
deep_found e l {x = x} h b = deep_plant e l (tree_of x) h b.is

pub low_found : {M : ℕ} (e : Tree) (l : Label) (level : ℕ) {f : Forest} {map x : Stretch M}
    → LowOver (level + 1) e.below f → Begins (value_for e l) map x → Low (level + 1) (tree_of x).below
low_found e l level {x = x} h b = low_plant e l level (tree_of x) h b.is

-- the first of some trees, what is below it, and the others
module _ {level : ℕ} {es f : Forest} {l : Label} {cs ns : Forest} (e : f ≡ node l cs ns) (h : LowOver level es f) where
  low : LowOver level es (node l cs ns)
  low = subst (LowOver level es) e h

  pub over_below : LowOver (level + 1) es cs
  over_below =
      record { depth = low.depth - 1; deep = low.deep.1; room = low.room; entries_deep = low.entries_deep; low = omega (arith, low.low, low.deep.0) }

  pub over_after : LowOver level es ns
  over_after = record { depth = low.depth; deep = low.deep.2; room = low.room; entries_deep = low.entries_deep; low = low.low }
