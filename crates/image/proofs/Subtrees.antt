-- Laws of trees of an image as the code has them.
--     pos_is, ending_is, start_some, ..    where a record is among bytes that begin at another
--     for_all                              what holds of one tree that stands somewhere holds of each that does
--     linked_first, turn, ended            the trees below a record; what a link that is not 0 leads to; nothing is linked at 0
--     tree_at, forest_at                   what stands somewhere is what the struct has; tree_is, forest_is: in a whole image
--     below_of, split_of                   .. and what is below it, and beside it
--     places_step, places_end              the iterator gives the first tree and leaves the others
--     Goes, goes, gone                     a loop over siblings: what the first tree of some siblings is, and that none is left
-- Assumes nothing.
use mathlib.Core.Path.{◌≡◌, refl, sym, ap, subst, ◌∙◌}
use mathlib.Core.List.{List, [], ◌∷◌, map}
use Prim.Native.Nat.{ℕ, zero, suc, ◌+◌, ◌-◌, ◌*◌, ◌<◌, ◌≤◌}
use Rattle.std.specs.Prelude.{Option, None, Some}
use Rattle.std.specs.List.{last_or}
use Rattle.std.specs.Iterator.{Drains, YieldsFirstBy}
use Rattle.std.proofs.lemmas.Iterator.{items_from_drains}
use Rattle.std.proofs.lemmas.Iterator.Consumers.{YieldsList-from_first}
use Rattle.std.proofs.lemmas.Option.{none-some}
use Rattle.image.specs.Flat.{size_t}
use native.Mathlib.Omega.{arith}
use lib.ListN.{length, drop, length-drop}
use lib.Seq.{drop-drop}
use Rattle.image.specs.Word.{word}
use Rattle.image.specs.Tree.{Forest, none, node, Tree, At, Stands, Linked, size, link}
use Rattle.image.specs.Places.{ending, pos, start}
use Rattle.image.specs.Chains.{only, one_chain}
use Rattle.image.specs.Subtrees.{Siblings, Subtree, Place, Below, Split, forest, tree_of, place, places, places_from}
use Rattle.image.specs.declared.trees.Stretch.{Stretch}
use Rattle.image.specs.declared.trees.Stretches.{Stretches}

-- the place of a record among the records of some bytes, and where they end
pub pos_is : (N b n : ℕ) → pos N b n ≡ n - start N b
pos_is zero b n = omega arith
pos_is (suc k) b n = refl

pub ending_is : (N b n : ℕ) → ending N b n ≡ 32 * start N b + n
ending_is zero b n = omega arith
ending_is (suc k) b n = refl

-- the same where they begin at one record and are as long
pub ending_same : (N b c m n : ℕ) → start N b ≡ start N c → m ≡ n → ending N b m ≡ ending N c n
ending_same N b c m n e f = omega (arith, ending_is N b m, ending_is N c n, e, f)

-- of a whole image, and of a part
pub pos_none : (N b n : ℕ) → N ≡ 0 → pos N b n ≡ n
pos_none zero b n e = refl
pos_none (suc k) b n e = absurd (omega (arith, e))

pub start_some : (N b : ℕ) → (N ≡ 0 → ⊥) → start N b ≡ b
start_some zero b nz = absurd (nz refl)
start_some (suc k) b nz = refl

-- what holds of one tree that stands somewhere holds of each that does
pub for_all : (P : Tree → Type 0) {t : Tree} {s : List ℕ} {b : ℕ} → At t s b → P t → (u : Tree) → At u s b → P u
for_all P h p u k = subst P (only h k) p

-- ---- links, in bytes that begin at record b

-- a forest that stands at record m is linked by the link to it
linked : (f : Forest) (s : List ℕ) (b m : ℕ) → b < m → Stands f (drop (32 * (m - b)) s) m → Linked f s b (link m f)
linked none s b m h k = refl
linked (node l cs ns) s b m h k = (h, k)

-- the trees below record n, the p-th of the bytes, are linked by its first link
pub below_linked : (t : Tree) (s : List ℕ) (b p n : ℕ) → n ≡ p + b → At t (drop (32 * p) s) n → Linked t.below s b (word (drop (32 * p) s) 24)
below_linked t s b p n is h =
    let e : 32 * p + 32 ≡ 32 * (n + 1 - b) = omega (arith, is) in
    let k : Stands t.below (drop (32 * (n + 1 - b)) s) (n + 1) = rw (drop-drop, e) at h.below in
    rw h.head.first (linked t.below s b (n + 1) (omega (arith, is)) k)

-- .. those of the record at which the bytes begin
pub linked_first : (t : Tree) (s : List ℕ) (b : ℕ) → At t s b → Linked t.below s b (word s 24)
linked_first t s b h = below_linked t s b 0 b (omega arith) h

-- what a link that is not 0 leads to: the child there, and the trees after it
pub record Turn (f : Forest) (s : List ℕ) (b at : ℕ) : Type 0 where
  pub child : Tree
  pub after : Forest
  pub is : f ≡ node child.label child.below after
  pub past : b < at
  pub fits : 32 * (at - b) + 32 ≤ length s
  pub here : At child (drop (32 * (at - b)) s) at
  pub next : Linked after s b (word (drop (32 * (at - b)) s) 28)
  pub number : word (drop (32 * (at - b)) s) 28 ≡ link (at + 1 + size child.below) after

pub turn : (f : Forest) {s : List ℕ} {b at : ℕ} → Linked f s b at → (at ≡ 0 → ⊥) → Turn f s b at
turn none h nz = absurd (nz h)
turn (node l cs ns) {s} {b} {at} h nz =
    let k = h.1 in
    let e : 32 * (at - b) + 32 * suc (size cs) ≡ 32 * (at + 1 + size cs - b) = omega (arith, h.0) in
    record {
      child = record { label = l; below = cs };
      after = ns;
      is = refl;
      past = h.0;
      fits = omega (arith, k.head.room, length-drop (32 * (at - b)) s);
      here = record { head = k.head; below = k.below };
      next = rw k.next (linked ns s b (at + 1 + size cs) (omega (arith, h.0)) (rw (drop-drop, e) at k.after));
      number = k.next;
    }

-- nothing is linked at 0
pub ended : (f : Forest) (s : List ℕ) (b at : ℕ) → Linked f s b at → at ≡ 0 → f ≡ none
ended none s b at h z = refl
ended (node l cs ns) s b at h z = absurd (omega arith)

-- ---- one tree, and some side by side

-- a tree's number, by its place
pub number_is : {N : ℕ} (x : Stretch N) → x.number ≡ pos N x.base x.number + start N x.base
number_is {N} x = omega (arith, pos_is N x.base x.number, x.past)

-- its records are within the image
pub tree_within : {N : ℕ} (x : Stretch N) → 32 * (x.number + size_t (tree_of x)) ≤ ending N x.base (length x.image.now)
tree_within {N} x =
    omega (arith, number_is x, x.stood.at.head.room, length-drop (32 * pos N x.base x.number) x.image.now, ending_is N x.base (length x.image.now))

-- the tree that stands at record n, the p-th of the bytes, is the one that is named by it
pub tree_at : {N : ℕ} (x : Stretch N) (t : Tree) {s : List ℕ} {p n : ℕ} → x.image.now ≡ s → pos N x.base x.number ≡ p → x.number ≡ n
    → At t (drop (32 * p) s) n → tree_of x ≡ t
tree_at {N} x t {s} {p} {n} es ep en h =
    only
    (subst (λ (z : List ℕ). At (tree_of x) (drop (32 * p) z) n) es
    (subst (λ (q : ℕ). At (tree_of x) (drop (32 * q) x.image.now) n) ep
    (subst (λ (k : ℕ). At (tree_of x) (drop (32 * pos N x.base x.number) x.image.now) k) en x.stood.at)))
    h

pub tree_is : (x : Subtree) (t : Tree) {s : List ℕ} {n : ℕ} → x.image.now ≡ s → x.number ≡ n → At t (drop (32 * n) s) n → tree_of x ≡ t
tree_is x t es en h = tree_at x t es en en h

-- the forest that is linked there is the siblings'
pub forest_at : {N : ℕ} (x : Stretches N) (f : Forest) {s : List ℕ} {b at : ℕ} → x.image.now ≡ s → start N x.base ≡ b → x.first ≡ at
    → Linked f s b at → forest x ≡ f
forest_at {N} x f {s} {b} {at} es eb ea h =
    one_chain (forest x) f s b at
    (subst (λ (z : List ℕ). Linked (forest x) z b at) es
    (subst (λ (c : ℕ). Linked (forest x) x.image.now c at) eb
    (subst (λ (k : ℕ). Linked (forest x) x.image.now (start N x.base) k) ea x.chained.linked)))
    h

pub forest_is : (x : Siblings) (f : Forest) {s : List ℕ} {at : ℕ} → x.image.now ≡ s → x.first ≡ at → Linked f s 0 at → forest x ≡ f
forest_is x f es ea h = forest_at x f es refl ea h

-- the children of a tree are those below it
pub below_of : {N : ℕ} {t : Stretch N} {x : Stretches N} → x.image.now ≡ t.image.now → start N x.base ≡ start N t.base
    → x.first ≡ word (drop (32 * pos N t.base t.number) t.image.now) 24 → Below t x
below_of {N} {t} {x} es eb ea =
    let h = below_linked (tree_of t) t.image.now (start N t.base) (pos N t.base t.number) t.number (number_is t) t.stood.at in
    record { image = es; base = eb; is = forest_at x (tree_of t).below es eb ea h; first = ea ∙ t.stood.at.head.first }

-- the first tree of some siblings, and the others
pub split_of : {N : ℕ} {x y : Stretches N} {t : Stretch N} → (x.first ≡ 0 → ⊥) → t.image.now ≡ x.image.now → start N t.base ≡ start N x.base
    → t.number ≡ x.first → y.image.now ≡ x.image.now → start N y.base ≡ start N x.base
    → y.first ≡ word (drop (32 * (x.first - start N x.base)) x.image.now) 28 → Split x t y
split_of {N} {x} {y} {t} nz ti tb tn yi yb yf =
    let u = turn (forest x) x.chained.linked nz in
    let here : pos N t.base t.number ≡ x.first - start N x.base = omega (arith, pos_is N t.base t.number, tb, tn) in
    let tree : tree_of t ≡ u.child = tree_at t u.child ti here tn u.here in
    let rest : forest y ≡ u.after = forest_at y u.after yi yb yf u.next in
    record {
      is = rw (tree, rest) u.is;
      number = tn;
      next = rw (tree, rest) (yf ∙ u.number);
      image = ti;
      base = tb;
      others = yi;
      others_base = yb;
    }

-- ---- the iterator

places_link : (s : List ℕ) (b m : ℕ) (f : Forest) → places_from s b (link m f) f ≡ places_from s b m f
unfolding places_from
places_link s b m none = refl
places_link s b m (node l cs ns) = refl

-- the first tree is given, and the others are left
pub places_step : {N : ℕ} {x y : Stretches N} {t : Stretch N} → Split x t y → places x ≡ place t ∷ places y
unfolding places_from
places_step {N} {x} {y} {t} w =
    let s = x.image.now in
    let b = start N x.base in
    let others = places_from s b (x.first + 1 + size (tree_of t).below) (forest y) in
    let here : places x ≡ record { image = s; base = b; number = x.first; tree = tree_of t } ∷ others = ap (places_from s b x.first) w.is in
    let left : places y ≡ others =
    ap (λ (z : List ℕ). places_from z (start N y.base) y.first (forest y)) w.others
    ∙ ap (λ (c : ℕ). places_from s c y.first (forest y)) w.others_base
    ∙ ap (λ (k : ℕ). places_from s b k (forest y)) w.next ∙ places_link s b _ (forest y) in
    let top : place t ≡ record { image = s; base = b; number = x.first; tree = tree_of t } =
    λ i. record { image = w.image i; base = w.base i; number = w.number i; tree = tree_of t } in
    rw (here, left, top) refl

-- none is
pub places_end : {N : ℕ} (x : Stretches N) → forest x ≡ none → places x ≡ []
unfolding places_from
places_end {N} x e = ap (places_from x.image.now (start N x.base) x.first) e

-- ---- a loop over siblings

-- t is the first of the trees x, and y are the others
pub record Goes {N : ℕ} (x : Stretches N) (t : Stretch N) (y : Stretches N) : Type 0 where
  pub is : forest x ≡ node (tree_of t).label (tree_of t).below (forest y)
  pub number : t.number ≡ x.first
  pub image : t.image.now ≡ x.image.now
  pub base : start N t.base ≡ start N x.base

-- the trees of a list of places
trees_of : List Place → Forest
trees_of [] = none
trees_of (p ∷ ps) = node p.tree.label p.tree.below (trees_of ps)

trees_back : (s : List ℕ) (b : ℕ) (f : Forest) (n : ℕ) → trees_of (places_from s b n f) ≡ f
unfolding places_from trees_of
trees_back s b none n = refl
trees_back s b (node l cs ns) n = ap (node l cs) (trees_back s b ns (n + 1 + size cs))

head_or : Place → List Place → Place
head_or d [] = d
head_or d (q ∷ qs) = q

tail : List Place → List Place
tail [] = []
tail (q ∷ qs) = qs

-- the first of them
first_place : (s : List ℕ) (b n : ℕ) (f : Forest) {p : Place} {ps : List Place} → places_from s b n f ≡ p ∷ ps
    → (p.image ≡ s) × (p.base ≡ b) × (p.number ≡ n)
unfolding places_from head_or
first_place s b n none e = absurd (omega (arith, ap length e))
first_place s b n (node l cs ns) {p} e =
    let same = ap (head_or p) e in
    (sym (ap (λ (q : Place). q.image) same), sym (ap (λ (q : Place). q.base) same), sym (ap (λ (q : Place). q.number) same))

pub goes : {N : ℕ} (x y : Stretches N) (t : Stretch N) → places x ≡ place t ∷ places y → Goes x t y
unfolding trees_of
goes {N} x y t e =
    let k = first_place x.image.now (start N x.base) x.first (forest x) e in
    record {
      image = k.0;
      base = k.1;
      number = k.2;
      is = sym (trees_back _ _ (forest x) _) ∙ ap trees_of e ∙ ap (node (tree_of t).label (tree_of t).below) (trees_back _ _ (forest y) _);
    }

pub gone : {N : ℕ} (x : Stretches N) → places x ≡ [] → forest x ≡ none
unfolding trees_of
gone x e = sym (trees_back _ _ (forest x) _) ∙ ap trees_of e

-- ---- the last of some siblings

-- u is the last of the trees f, the first of which has the number n in the bytes s from record b on
pub record Last {N : ℕ} (s : List ℕ) (b : ℕ) (f : Forest) (n : ℕ) (u : Stretch N) : Type 0 where
  pub image : u.image.now ≡ s
  pub base : start N u.base ≡ b
  pub end : u.number + size_t (tree_of u) ≡ n + size f
  pub fewer : size (tree_of u).below < size f

or_else : {N : ℕ} → Stretch N → Option (Stretch N) → Stretch N
or_else d None = d
or_else d (Some u) = u

some_is : {N : ℕ} {x u : Stretch N} → Some x ≡ Some u → x ≡ u
unfolding or_else
some_is {N} {x} e = ap (or_else x) e

-- the items of a list, first and others
first_is : {p q : Place} {ps qs : List Place} → p ∷ ps ≡ q ∷ qs → p ≡ q
unfolding head_or
first_is {p} e = ap (head_or p) e

others_are : {p q : Place} {ps qs : List Place} → p ∷ ps ≡ q ∷ qs → ps ≡ qs
unfolding tail
others_are e = ap tail e

-- the items are the trees f, the first of which has the number n
lasts : {N : ℕ} (s : List ℕ) (b : ℕ) (f : Forest) (n : ℕ) (xs : List (Stretch N)) (o : Option (Stretch N)) {u : Stretch N}
    → (f ≡ none → ⊥) → map place xs ≡ places_from s b n f → last_or o xs ≡ Some u → Last s b f n u
unfolding places_from
lasts s b none n xs o some e z = absurd (some refl)
lasts s b (node l cs ns) n [] o some e z = absurd (omega (arith, ap length e))
lasts s b (node l cs none) n (x ∷ y ∷ ys) o some e z = absurd (omega (arith, ap length e))
lasts {N} s b (node l cs none) n (x ∷ []) o {u} some e z =
    let same : place x ≡ record { image = s; base = b; number = n; tree = record { label = l; below = cs } } = first_is e in
    let is : x ≡ u = some_is z in
    let number : u.number ≡ n = subst (λ (v : Stretch N). v.number ≡ n) is (ap (λ (p : Place). p.number) same) in
    let below : size (tree_of u).below ≡ size cs =
    subst (λ (v : Stretch N). size (tree_of v).below ≡ size cs) is (ap (λ (p : Place). size p.tree.below) same) in
    record {
      image = subst (λ (v : Stretch N). v.image.now ≡ s) is (ap (λ (p : Place). p.image) same);
      base = subst (λ (v : Stretch N). start N v.base ≡ b) is (ap (λ (p : Place). p.base) same);
      end = omega arith;
      fewer = omega arith;
    }
lasts s b (node l cs (node m ds os)) n (x ∷ xs) o some e z =
    let w = lasts s b (node m ds os) (n + 1 + size cs) xs (Some x) (λ (q : node m ds os ≡ none). absurd (omega (arith, ap size q))) (others_are e) z in
    record { image = w.image; base = w.base; end = omega (arith, w.end); fewer = omega (arith, w.fewer) }

pub last_some : {N : ℕ} (x : Stretches N) {u : Stretch N} (xs : List (Stretch N)) → map place xs ≡ places x → last_or None xs ≡ Some u
    → Last x.image.now (start N x.base) (forest x) x.first u
last_some {N} x {u} xs e z = lasts _ _ (forest x) _ xs None (λ (q : forest x ≡ none). nothing xs (e ∙ places_end x q) z) e z
  where
    nothing : (ys : List (Stretch N)) → map place ys ≡ [] → last_or None ys ≡ Some u → ⊥
    nothing [] k h = none-some _ h
    nothing (y ∷ ys) k h = absurd (omega (arith, ap length k))

pub last_none : {N : ℕ} (x : Stretches N) (xs : List (Stretch N)) → map place xs ≡ places x → last_or None xs ≡ None → forest x ≡ none
last_none {N} x [] e z = gone x (sym e)
last_none {N} x (y ∷ ys) e z = absurd (some y ys z)
  where
    some : (u : Stretch N) (us : List (Stretch N)) → last_or (Some u) us ≡ None → ⊥
    some u [] h = none-some _ (sym h)
    some u (v ∷ vs) h = some v vs h

-- the link to trees that there are
pub link_of : (m : ℕ) (f : Forest) → 0 < size f → link m f ≡ m
link_of m none h = absurd (omega arith)
link_of m (node l cs ns) h = refl

-- all the items that come are the trees
pub all_items : {N : ℕ} (x : Stretches N) (xs : List (Stretch N)) → Drains (YieldsFirstBy place places) x xs → map place xs ≡ places x
all_items x xs d =
    items_from_drains {steps = YieldsFirstBy place places} {s = x} xs (d.1.0, d.1.1, λ w. (d.0, d.1.2))
    (YieldsList-from_first place places (places x) refl)
