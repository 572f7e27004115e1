-- Laws of the extent of trees.
--     Left                           the invariant of a walk along a tree's children: `left_start`, `left_next`, `left_end`, `left_small`
--     measures_false, measures_and   the extent of FALSE and of an And
--     item_small                     an item has no more records, and no more levels, than an image
--     First                          the invariant of a walk along a list: `first_one`, `first_next`, `first_all`, `first_bounded`
-- Assumes nothing.
use mathlib.Core.Path.{◌≡◌, refl, ap, ◌∙◌}
use mathlib.Core.List.{List, ◌∷◌}
use Prim.Native.Nat.{ℕ, zero, suc, ◌+◌, ◌-◌, ◌*◌, ◌≤◌, ◌<◌, max as larger}
use native.Mathlib.Omega.{arith}
use lib.ListN.{length, get_or, take, drop, length-drop}
use Rattle.std.proofs.lemmas.List.{get_or-drop, get_or-take, length-take-le}
use Rattle.std.specs.Ordering.{nat_cmp, ord_max}
use lib.Seq.{take_all}
use Rattle.image.specs.Limits.{max_records, work_bytes}
use Rattle.image.specs.Places.{pos}
use Rattle.image.specs.Subtrees.{tree_of}
use Rattle.image.specs.declared.trees.Stretch.{Stretch}
use Rattle.image.specs.Tree.{Forest, none, node, Tree, size}
use Rattle.image.specs.Flat.{size_t}
use Rattle.plan.specs.Measure.{depth}
use Rattle.plan.specs.Syntax.{Expr, bin, and}
use Rattle.plan.specs.Trees.{expr_tree, kids_e}
use Rattle.rewrite.specs.Utils.{conjoin}
use Rattle.conjuncts.specs.Items.{Conjuncts, FALSE, Item, Known, Lists, Present, listed}
use Rattle.conjuncts.proofs.Listed.{lists_at, lists_length, lists_room}
use Rattle.writing.proofs.Pushing.{conjoin_one, conjoin_more}
use Rattle.extents.specs.Extents.{Bounded, Extent, Measures}

-- the larger of two, as `a.max(b)` gives it
pub max_is : (a b : ℕ) → ord_max nat_cmp a b ≡ larger a b
max_is a b = grind arith

-- a forest has no more levels than records
depth_size : (f : Forest) → depth f ≤ size f
unfolding depth
depth_size none = omega arith
depth_size (node l cs ns) = omega (arith, depth_size cs, depth_size ns)

-- ---- a walk along the children of a tree

-- of the tree t, so many records and levels are counted, and the children `rest` are still to come
pub record Left (records below : ℕ) (t : Tree) (rest : Forest) : Type 0 where
  pub records_are : records + size rest ≡ size_t t
  pub levels_are : larger below (depth rest) ≡ depth t.below

-- before the walk the root alone is counted
pub left_start : (t : Tree) → Left 1 0 t t.below
left_start t = record { records_are = omega arith; levels_are = omega arith }

-- a child is counted
pub left_next : {records below : ℕ} {t u : Tree} {rest : Forest} {e : Extent} → Left records below t (node u.label u.below rest)
    → Measures e u → Left (records + e.records) (larger below e.depth) t rest
unfolding depth
left_next h k = record { records_are = omega arith; levels_are = omega arith }

-- after the walk the tree is
pub left_end : {records below : ℕ} {t : Tree} → Left records below t none → Measures (record { records = records; depth = below + 1 }) t
unfolding depth
left_end h = record { records = omega arith; depth = omega arith }

-- what is counted fits the bytes of the image
pub left_small : {N records below : ℕ} (x : Stretch N) {rest : Forest} → Left records below (tree_of x) rest
    → (32 * (records + size rest) ≤ length x.image.now) × (32 * below + 32 ≤ length x.image.now)
left_small {N} x h =
    omega (arith, depth_size (tree_of x).below, x.stood.at.head.room, length-drop (32 * pos N x.base x.number) x.image.now)

-- ---- expressions

-- FALSE is a leaf
pub measures_false : Measures (record { records = 1; depth = 1 }) (expr_tree FALSE)
unfolding depth kids_e
measures_false = record { records = refl; depth = refl }

-- an And is a record over its operands
pub measures_and : (a b : Expr) {x y : Extent} → Measures x (expr_tree a) → Measures y (expr_tree b)
    → Measures (record { records = 1 + x.records + y.records; depth = 1 + larger x.depth y.depth }) (expr_tree (bin and a b))
unfolding depth kids_e
measures_and a b h k = record { records = omega arith; depth = omega arith }

-- an item is no larger than an image
pub item_small : {s : List ℕ} (n : ℕ) {e : Expr} {r : Extent} → length s ≤ work_bytes → Item s n e → Measures r (expr_tree e)
    → (r.records ≤ max_records) × (r.depth ≤ max_records)
unfolding kids_e
item_small zero h i m = let k = rw (i.none refl) at m in omega (arith, depth_size (kids_e FALSE))
item_small {s} (suc n) {e} h i m =
    let w = i.some (λ z. absurd (omega arith)) in omega (arith, length-drop (32 * suc n) s, depth_size (kids_e e))

-- ---- a walk along a list

-- the number at i of a list stands for an expression
pub present_at : {s : List ℕ} {c : Conjuncts} (h : Known s c) (i n : ℕ) → i < c.len → n ≡ get_or (listed c) i 0 → Present s n
present_at h i n lt e = record { expr = get_or h.exprs i FALSE; item = lists_at h.lists h.most i n lt e }

-- r is the extent of the first i items of the list, joined left-deep, and no number is large
pub record First (s : List ℕ) (c : Conjuncts) (i : ℕ) (r : Extent) : Type 0 where
  pub some : 0 < i
  pub most : i ≤ c.len
  pub records : r.records ≤ 2 * max_records * i
  pub levels : r.depth ≤ 2 * max_records * i
  pub measures : (e : Expr) (es : List Expr) → Lists s c (e ∷ es) → Measures r (expr_tree (conjoin e (take (i - 1) es)))

module _ {s : List ℕ} {c : Conjuncts} (short : length s ≤ work_bytes) (h : Known s c) where
  -- the first item
  pub first_one : {n : ℕ} {r : Extent} → 0 < c.len → n ≡ get_or (listed c) 0 0 → ((e : Expr) → Item s n e → Measures r (expr_tree e))
      → First s c 1 r
  first_one {n} {r} some is m =
      let p = present_at h 0 n some is in
      let small = item_small n short p.item (m p.expr p.item) in
      record {
        some = omega arith;
        most = omega arith;
        records = omega arith;
        levels = omega arith;
        measures = λ e es k. rw (conjoin_one e es 0 refl) (m e (lists_at k h.most 0 n some is));
      }

  -- one item more
  pub first_next : {i n : ℕ} {x y : Extent} → First s c i x → i < c.len → n ≡ get_or (listed c) i 0
      → ((e : Expr) → Item s n e → Measures y (expr_tree e))
      → First s c (i + 1) (record { records = 1 + x.records + y.records; depth = 1 + larger x.depth y.depth })
  first_next {i} {n} {x} {y} f lt is m =
      let p = present_at h i n lt is in
      let small = item_small n short p.item (m p.expr p.item) in
      let z : i + 1 - 1 ≡ i = omega arith in
      record {
        some = omega arith;
        most = omega arith;
        records = omega arith;
        levels = omega arith;
        measures = λ e es k. rw (z, conjoin_more e es i (λ q. absurd (omega arith)) (omega (arith, lists_length k h.most)))
            (measures_and (conjoin e (take (i - 1) es)) (get_or (e ∷ es) i FALSE) (f.measures e es k)
            (m (get_or (e ∷ es) i FALSE) (lists_at k h.most i n lt is)));
      }

  -- all of them
  pub first_all : {i : ℕ} {r : Extent} → First s c i r → c.len ≤ i
      → (e : Expr) (es : List Expr) → Lists s c (e ∷ es) → Measures r (expr_tree (conjoin e es))
  first_all {i} f end e es k = rw (take_all (i - 1) es (omega (arith, lists_length k h.most))) at (f.measures e es k)

  -- .. and they are not large
  pub first_bounded : {i : ℕ} {r : Extent} → First s c i r → Bounded r
  first_bounded f = record { records = omega (arith, f.records, f.most, h.most); depth = omega (arith, f.levels, f.most, h.most) }

-- ---- the items behind the first

module _ {s : List ℕ} {c : Conjuncts} {xs : List ℕ} (h : Known s c) (is : xs ≡ listed c) where
  rest_len : length (take (length xs - 1) (drop 1 xs)) ≡ c.len - 1
  rest_len = omega (
    arith,
    length-take-le (length xs - 1) (drop 1 xs) (omega (arith, length-drop 1 xs)),
    ap length is ∙ lists_room h.lists h.most,
  )

  pub rest_in : {i : ℕ} → i < length (take (length xs - 1) (drop 1 xs)) → i + 1 < c.len
  rest_in lt = omega (arith, rest_len)

  pub rest_end : {i : ℕ} → length (take (length xs - 1) (drop 1 xs)) ≤ i → c.len ≤ i + 1
  rest_end le = omega (arith, rest_len)

  pub rest_at : {i n : ℕ} → i < length (take (length xs - 1) (drop 1 xs)) → n ≡ get_or (take (length xs - 1) (drop 1 xs)) i 0
      → n ≡ get_or (listed c) (i + 1) 0
  rest_at {i} lt e =
      let z : 1 + i ≡ i + 1 = omega arith in
      e ∙ (get_or-take (length xs - 1) (drop 1 xs) i 0 (omega (arith, rest_len, ap length is ∙ lists_room h.lists h.most))
      ∙ (get_or-drop 1 xs i 0 ∙ rw (z, is)))
