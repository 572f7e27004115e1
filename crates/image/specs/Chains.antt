-- A tree, and a chain of siblings, stand somewhere in one way: `Placed` and `Chained` have one proof at most. These laws stand in
-- specs/ since the ghost fields of src/trees.rt name them.
use mathlib.Core.HLevel.{is_prop→PathP, ×_prop, Unit-prop}
use native.Mathlib.Bridge.{le_prop}
use native.Mathlib.Nat.{ℕ_set}
use mathlib.Core.Path.{◌≡◌, refl, sym, ap, subst, ◌∙◌}
use mathlib.Core.List.{List}
use Prim.Native.Nat.{ℕ, suc, ◌+◌, ◌*◌, ◌-◌, ◌<◌}
use native.Mathlib.Omega.{arith}
use lib.ListN.{drop}
use Rattle.image.specs.Tree.{Label, Forest, none, node, Tree, size, link, Stands, Linked, Here, At}
use Rattle.image.specs.Places.{Chained, Placed, Stood}

-- one forest only stands somewhere, where the links to it are the same
pub same : (f g : Forest) (s : List ℕ) (b : ℕ) → 0 < b → link b f ≡ link b g → Stands f s b → Stands g s b → f ≡ g
same none none s b pos e h k = refl
same none (node l cs ns) s b pos e h k = absurd (omega arith)
same (node l cs ns) none s b pos e h k = absurd (omega arith)
same (node l cs ns) (node l' cs' ns') s b pos e h k =
    let first : link (b + 1) cs ≡ link (b + 1) cs' = sym h.head.first ∙ k.head.first in
    let pc : cs ≡ cs' = same cs cs' (drop 32 s) (b + 1) (omega arith) first h.below k.below in
    let k' : Stands (node l' cs ns') s b = subst (λ (f : Forest). Stands (node l' f ns') s b) (sym pc) k in
    let m = b + 1 + size cs in
    let pn : ns ≡ ns' = same ns ns' (drop (32 * suc (size cs)) s) m (omega arith) (sym h.next ∙ k'.next) h.after k'.after in
    cc (h.head.label, k.head.label)

-- one tree only stands somewhere
pub only : {t u : Tree} {s : List ℕ} {b : ℕ} → At u s b → At t s b → u ≡ t
only {t} {u} {s} {b} h k =
    let links : link (b + 1) u.below ≡ link (b + 1) t.below = sym h.head.first ∙ k.head.first in
    let pc : u.below ≡ t.below = same u.below t.below (drop 32 s) (b + 1) (omega arith) links h.below k.below in
    let pl : u.label ≡ t.label = sym h.head.label ∙ k.head.label in
    ap (λ (x : Label × Forest). record { label = x.0; below = x.1 }) (cc)

-- one forest is linked there
pub one_chain : (f g : Forest) (s : List ℕ) (b at : ℕ) → Linked f s b at → Linked g s b at → f ≡ g
one_chain none none s b at h k = refl
one_chain none (node l cs ns) s b at h k = absurd (omega arith)
one_chain (node l cs ns) none s b at h k = absurd (omega arith)
one_chain (node l cs ns) (node m ds os) s b at h k =
    same (node l cs ns) (node m ds os) (drop (32 * (at - b)) s) at (omega arith) refl h.1 k.1

label_prop : (x y : Label) → IsProp (x ≡ y)
label_prop x y p q = λ i j. record {
  kind = ℕ_set _ _ (λ k. (p k).kind) (λ k. (q k).kind) i j;
  p = ℕ_set _ _ (λ k. (p k).p) (λ k. (q k).p) i j;
  q = ℕ_set _ _ (λ k. (p k).q) (λ k. (q k).q) i j;
  r = ℕ_set _ _ (λ k. (p k).r) (λ k. (q k).r) i j;
  lo = ℕ_set _ _ (λ k. (p k).lo) (λ k. (q k).lo) i j;
  hi = ℕ_set _ _ (λ k. (p k).hi) (λ k. (q k).hi) i j;
}

here_prop : (l : Label) (cs : Forest) (s : List ℕ) (b : ℕ) → IsProp (Here l cs s b)
here_prop l cs s b x y = λ i. record {
  label = label_prop _ _ x.label y.label i;
  first = ℕ_set _ _ x.first y.first i;
  room = le_prop x.room y.room i;
}

stands_prop : (f : Forest) (s : List ℕ) (b : ℕ) → IsProp (Stands f s b)
stands_prop none s b = Unit-prop
stands_prop (node l cs ns) s b = λ x y i. record {
  head = here_prop l cs s b x.head y.head i;
  below = stands_prop cs _ _ x.below y.below i;
  next = ℕ_set _ _ x.next y.next i;
  after = stands_prop ns _ _ x.after y.after i;
}

linked_prop : (f : Forest) (s : List ℕ) (b at : ℕ) → IsProp (Linked f s b at)
linked_prop none s b at = ℕ_set _ _
linked_prop (node l cs ns) s b at = ×_prop le_prop (stands_prop (node l cs ns) _ _)

pub Chained-prop : (s : List ℕ) (b at : ℕ) → IsProp (Chained s b at)
Chained-prop s b at x y =
    let e : x.forest ≡ y.forest = one_chain x.forest y.forest s b at x.linked y.linked in
    λ i. record { forest = e i; linked = is_prop→PathP (λ j. Linked (e j) s b at) (λ j. linked_prop (e j) s b at) x.linked y.linked i }

at_prop : (t : Tree) (s : List ℕ) (b : ℕ) → IsProp (At t s b)
at_prop t s b x y = λ i. record { head = here_prop _ _ _ _ x.head y.head i; below = stands_prop t.below _ _ x.below y.below i }

pub Placed-prop : (s : List ℕ) (p n : ℕ) → IsProp (Placed s p n)
Placed-prop s p n x y =
    let e : x.tree ≡ y.tree = only x.at y.at in
    λ i. record { tree = e i; at = is_prop→PathP (λ j. At (e j) (drop (32 * p) s) n) (λ j. at_prop (e j) _ n) x.at y.at i }

pub Stood-prop : (s : List ℕ) (n : ℕ) → IsProp (Stood s n)
Stood-prop s n = Placed-prop s n n
