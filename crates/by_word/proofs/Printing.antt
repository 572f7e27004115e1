-- The fingerprint of an expression is read off its records, one after another; and equal expressions have the same.
--     mixed_step, mixed_tree      a walk along the records of an expression
--     prints_add                  the fingerprints of a list, as it grows
--     unlike                      other fingerprints, other expressions
--     printed_full, -there, -new  a list and its fingerprints, with an item that is appended unless an equal one is there
-- Assumes nothing.
use mathlib.Core.Path.{◌≡◌, refl, ap, ◌∙◌}
use mathlib.Core.Bool.{Bool, true, false, not}
use mathlib.Core.List.{List, [], ◌∷◌, ◌++◌, append-nil}
use Prim.Native.Nat.{ℕ, zero, suc, ◌+◌, ◌-◌, ◌*◌, ◌≤◌, ◌<◌}
use native.Mathlib.Nat.{zero-add}
use native.Mathlib.Omega.{arith}
use lib.Dec.{eqb}
use lib.ListN.{length, get_or, drop, set, length-append, get_or-append}
use lib.Seq.{drop-drop, get_or-set_same, get_or-set_other, get_or-append-add}
use borrow.Author.Tests.{eqb-true, eqb-false, ne_eqb}
use Rattle.image.specs.Limits.{max_list, too_many}
use Rattle.image.specs.Tree.{Forest, none, node, size, link, label_at, Stands, At}
use Rattle.image.specs.Word.{word}
use Rattle.image.specs.Subtrees.{Subtree, tree_of}
use Rattle.image.specs.Flat.{size_t}
use Rattle.plan.specs.Lists.{put}
use Rattle.plan.specs.Syntax.{Expr}
use Rattle.plan.specs.Kinds.{Boolean, number_e}
use Rattle.plan.specs.Trees.{expr_tree, label_e, kids_e}
use Rattle.rewrite.specs.Utils.{same_e}
use Rattle.rewrite.proofs.Exprs.{same_e_eq}
use Rattle.conjuncts.specs.Items.{Conjuncts, FALSE, Item, Lists}
use Rattle.by_word.specs.Fingerprints.{mixed, leads, shape, mixed_any, fingerprint, Prints, Printed}
use Rattle.conjuncts.specs.Onto.{is_in}
use Rattle.conjuncts.proofs.Listed.{lists_full}
use Rattle.by_word.proofs.Lists.{lists_long}

-- ---- along the records

-- with the record at the start of s
abbrev pub mixed_at : ℕ → List ℕ → ℕ
mixed_at h s = mixed h (label_at s) (shape (word s 24) (word s 28))

-- k records more
unfoldable pub mixed_for : ℕ → ℕ → List ℕ → ℕ
mixed_for h zero s = h
mixed_for h (suc k) s = mixed_for (mixed_at h s) k (drop 32 s)

mixed_suc : (h k : ℕ) (s : List ℕ) → mixed_for h (suc k) s ≡ mixed_for (mixed_at h s) k (drop 32 s)
unfolding mixed_for
mixed_suc h k s = refl

pub mixed_step : (h n k i : ℕ) (s : List ℕ) → i < k
    → mixed_for h (k - i) (drop (32 * (n + i)) s) ≡ mixed_for (mixed_at h (drop (32 * (n + i)) s)) (k - (i + 1)) (drop (32 * (n + (i + 1))) s)
mixed_step h n k i s lt =
    let z : k - i ≡ suc (k - (i + 1)) = omega arith in
    let y : 32 * (n + i) + 32 ≡ 32 * (n + (i + 1)) = omega arith in
    rw (z, mixed_suc h (k - (i + 1)) (drop (32 * (n + i)) s), drop-drop, y)

pub mixed_end : (h k i : ℕ) (s : List ℕ) → k ≤ i → mixed_for h (k - i) s ≡ h
unfolding mixed_for
mixed_end h k i s le = let z : k - i ≡ 0 = omega arith in rw z

-- the shape of a record by the numbers that its links have is that by any others
leads_link : (f : Forest) (b : ℕ) → leads (link (b + 1) f) ≡ leads (link 1 f)
leads_link none b = refl
leads_link (node l cs ns) b = rw (ne_eqb (b + 1) 0 (λ z. omega arith))

shape_at : (cs ns : Forest) (s : List ℕ) (b c : ℕ) → word s 24 ≡ link (b + 1) cs → word s 28 ≡ link (c + 1) ns
    → shape (word s 24) (word s 28) ≡ shape (link 1 cs) (link 1 ns)
unfolding shape
shape_at cs ns s b c x y = rw (x, y, leads_link cs b, leads_link ns c)

-- a forest that stands there, and then what comes behind it
mixed_forest : (f : Forest) (s : List ℕ) (b h k : ℕ) → Stands f s b
    → mixed_for h (size f + k) s ≡ mixed_for (mixed_any h f) k (drop (32 * size f) s)
unfolding mixed_for mixed_any
mixed_forest none s b h k x = rw (zero-add k)
mixed_forest (node l cs ns) s b h k x =
    let z : suc (size cs + size ns) + k ≡ suc (size cs + (size ns + k)) = omega arith in
    let y : 32 + 32 * size cs ≡ 32 * suc (size cs) = omega arith in
    let w : 32 * suc (size cs) + 32 * size ns ≡ 32 * suc (size cs + size ns) = omega arith in
    let c : b + 1 + size cs ≡ b + size cs + 1 = omega arith in
    let m = mixed h l (shape (link 1 cs) (link 1 ns)) in
    rw (z, mixed_suc h (size cs + (size ns + k)) s, x.head.label, shape_at cs ns s b (b + size cs) x.head.first (rw c at x.next))
    (mixed_forest cs (drop 32 s) (b + 1) m (size ns + k) x.below
    ∙ rw (drop-drop, y)
    (mixed_forest ns (drop (32 * suc (size cs)) s) (b + 1 + size cs) (mixed_any m cs) k x.after ∙ rw (drop-drop, w)))

-- an expression: its top, whose next is apart, and then what is below it
mixed_expr : (e : Expr) (s : List ℕ) (b : ℕ) → At (expr_tree e) s b
    → mixed_for (mixed 0 (label_at s) (shape (word s 24) 0)) (size_t (expr_tree e) - 1) (drop (32 * 1) s) ≡ fingerprint e
unfolding mixed_for fingerprint shape
mixed_expr e s b x =
    let below = (expr_tree e).below in
    let z : size below + 0 ≡ size below = omega arith in
    let y : suc (size below) - 1 ≡ size below = omega arith in
    rw (y, x.head.label, x.head.first, leads_link below b)
    (rw z at (mixed_forest below (drop 32 s) (b + 1) (mixed 0 (expr_tree e).label (shape (link 1 below) 0)) 0 x.below))

-- .. whose tree the code has
pub mixed_tree : (x : Subtree) (e : Expr) → tree_of x ≡ expr_tree e
    → mixed_for (mixed 0 (tree_of x).label (shape (link (x.number + 1) (tree_of x).below) 0)) (size_t (tree_of x) - 1)
    (drop (32 * (x.number + 1)) x.image.now)
    ≡ fingerprint e
mixed_tree x e is =
    let h : At (expr_tree e) (drop (32 * x.number) x.image.now) x.number = rw is at x.stood.at in
    let z : 32 * x.number + 32 * 1 ≡ 32 * (x.number + 1) = omega arith in
    rw (is, ← h.head.label, ← h.head.first) (rw (drop-drop, z) at (mixed_expr e (drop (32 * x.number) x.image.now) x.number h))

-- of FALSE, which may have no record
pub print_false : mixed 0 (record { kind = number_e Boolean; p = 0; q = 0; r = 0; lo = 0; hi = 0 }) 0 ≡ fingerprint FALSE
unfolding mixed_any fingerprint label_e kids_e shape
print_false = refl

-- ---- of lists

-- other fingerprints, other expressions
pub unlike : (a b : Expr) → (fingerprint a ≡ fingerprint b → ⊥) → same_e a b ≡ false
unlike a b n = go (same_e a b) refl
  where
    go : (y : Bool) → same_e a b ≡ y → y ≡ false
    go true h = absurd (n (ap fingerprint (same_e_eq a b h)))
    go false h = refl

-- one more at the end
pub prints_add : (ps : List ℕ) (es : List Expr) (e : Expr) (n p : ℕ) → Prints ps es → length ps ≡ too_many → length es ≡ n → n ≤ max_list
    → p ≡ fingerprint e → Prints (set ps n p) (es ++ (e ∷ []))
prints_add ps es e n p h long count few k i lt small = go (eqb i n) refl
  where
    go : (b : Bool) → eqb i n ≡ b → get_or (set ps n p) i 0 ≡ fingerprint (get_or (es ++ (e ∷ [])) i FALSE)
    go true y =
        let z : i ≡ n = eqb-true i n y in
        let w : i ≡ length es + 0 = omega arith in
        rw (z, get_or-set_same ps n p 0 (omega arith), k, ← z, w, get_or-append-add es (e ∷ []) 0 FALSE)
    go false y =
        let z : i < length es = omega (arith, eqb-false i n y, length-append es (e ∷ [])) in
        rw (get_or-set_other ps n i p 0 (eqb-false i n y), get_or-append es (e ∷ []) FALSE i z) (h i z small)

-- ---- of a list that an item is appended to, unless an equal one is there

module _ {s : List ℕ} {c : Conjuncts} {ps : List ℕ} (es : List Expr) (e : Expr) where
  -- it is too long
  pub printed_full : {n : ℕ} → Lists s c es → Prints ps es → Item s n e → max_list < c.len → Printed s c ps (es ++ put (not (is_in es e)) e [])
  printed_full h f k many =
      record {
        lists = lists_full _ h k many;
        prints = λ i lt small.
            let z : i < length es = omega (arith, lists_long h many) in
            rw (get_or-append es (put (not (is_in es e)) e []) FALSE i z) (f i z small);
      }

  -- an equal one is there
  pub printed_there : Lists s c es → Prints ps es → is_in es e ≡ true → Printed s c ps (es ++ put (not (is_in es e)) e [])
  unfolding put
  printed_there h f y = rw (y, append-nil es) (record { lists = h; prints = f })

  -- none is
  pub printed_new : Lists s c (es ++ (e ∷ [])) → Prints ps (es ++ (e ∷ [])) → is_in es e ≡ false → Printed s c ps (es ++ put (not (is_in es e)) e [])
  unfolding put
  printed_new h f y = rw y (record { lists = h; prints = f })
