-- Laws of the sets of the columns that expressions refer to.
--     tree_columns    the columns of an expression are those of its tree
--     answers_one     the set of one place
--     masks_add       the set of the places of some names, and one more
--     So              the invariant of a loop that collects the columns of the children
-- Assumes nothing.
use mathlib.Core.Path.{◌≡◌, refl, sym, ap, ap₂, ◌∙◌}
use mathlib.Core.Bool.{Bool, true, false, not, ◌||◌, cond}
use mathlib.Core.List.{List, [], ◌∷◌, ◌++◌}
use Prim.Native.Nat.{ℕ, zero, suc, ◌≤◌, ◌<◌}
use native.Mathlib.Omega.{arith}
use lib.Dec.{eqb, eqb-zero-suc, eqb-suc-zero, eqb-suc-suc}
use borrow.Author.Tests.{ne_eqb}
use lib.ListN.{length}
use Rattle.image.specs.Tree.{Forest, none, node, Tree}
use Rattle.image.specs.Limits.{max_fields}
use Rattle.plan.specs.Columns.{on_cols, on_cols_all}
use Rattle.plan.specs.Lists.{◌&◌, any}
use Rattle.plan.specs.Schema.{has, same, nodup}
use Rattle.plan.specs.Syntax.{Name, nm, Expr, col, num, bool, nul, bin, neg, test, between, inlist, fn, Exprs, enil, econs}
use Rattle.plan.specs.Trees.{label_e, kids_e, forest_e, expr_tree}
use Rattle.plan.proofs.Names.{same_eq, same_refl, not_true}
use Rattle.plan.proofs.Lists.{and_l, and_r, and_true, true_and, and_assoc}
use Rattle.plan.proofs.Written.{name_back}
use Rattle.utils.specs.Sets.{member, within}
use Rattle.utils.specs.Masks.{name_at, Masks, Answers}
use Rattle.utils.specs.Fields.{place_in}
use Rattle.utils.specs.Referring.{on_any, on_tree}
use Rattle.utils.proofs.Members.{within_none, within_both, within_with}
use Rattle.utils.proofs.Named.{place_has}
use Rattle.utils.proofs.Marking.{has_at}

-- ---- the columns of an expression are those of its tree

mutual
  unfolding label_e kids_e forest_e on_cols on_cols_all on_tree on_any

  pub tree_columns : (c : Name → Bool) (e : Expr) → on_tree c (expr_tree e) ≡ on_cols c e
  tree_columns c (col x) = ap c (name_back x)
  tree_columns c (num z) = refl
  tree_columns c (bool b) = refl
  tree_columns c (nul t) = refl
  tree_columns c (bin o a b) = ap₂ ◌&◌ (tree_columns c a) (and_true _ ∙ tree_columns c b)
  tree_columns c (neg a) = and_true _ ∙ tree_columns c a
  tree_columns c (test t a) = and_true _ ∙ tree_columns c a
  tree_columns c (between n a l h) = ap₂ ◌&◌ (tree_columns c a) (ap₂ ◌&◌ (tree_columns c l) (and_true _ ∙ tree_columns c h))
  tree_columns c (inlist n a xs) = ap₂ ◌&◌ (tree_columns c a) (forest_columns c xs)
  tree_columns c (fn p q r xs) = forest_columns c xs

  forest_columns : (c : Name → Bool) (es : Exprs) → on_any c (forest_e es) ≡ on_cols_all c es
  forest_columns c enil = refl
  forest_columns c (econs x xs) = ap₂ ◌&◌ (tree_columns c x) (forest_columns c xs)

-- FALSE has none
pub answers_false : (ns : List Name) (e : Expr) → e ≡ bool false → Answers 0 ns (λ c. on_cols c e)
unfolding on_cols
answers_false ns e is = rw is (record { says = λ m c k. within_none max_fields m })

-- the set of the columns of its tree is that of an expression
pub answers_expr : {v : ℕ} {ns : List Name} (e : Expr) → Answers v ns (λ c. on_tree c (expr_tree e)) → Answers v ns (λ c. on_cols c e)
answers_expr e h = record { says = λ m c k. h.says m c k ∙ tree_columns c e }

-- ---- one column

same_turned : (x y : Name) → same y x ≡ false → same x y ≡ false
same_turned x y h = go (same x y) refl
  where
    go : (b : Bool) → same x y ≡ b → b ≡ false
    go true e = sym (same_refl y) ∙ (rw (same_eq x y e) at h)
    go false e = refl

-- where no name stands twice, the place of a name is the only one that has it
place_same : (ns : List Name) (x : Name) (i : ℕ) → nodup ns ≡ true → has ns x ≡ true → i < length ns
    → eqb (place_in ns x) i ≡ same x (name_at ns i)
unfolding place_in any
place_same [] x i single h l = absurd (omega arith)
place_same (y ∷ ns) x i single h l = go (same y x) refl i l (λ k j m. place_same ns x j (and_r (not (has ns y)) _ single) k m) h
  where
    later : y ≡ x → (j : ℕ) → j < length ns → (b : Bool) → same x (name_at ns j) ≡ b → false ≡ b
    later e j m true k =
        let z : has ns y ≡ true = rw (e, same_eq x (name_at ns j) k) (has_at ns j m) in
        sym (not_true (has ns y) (and_l _ _ single)) ∙ z
    later e j m false k = refl

    go : (b : Bool) → same y x ≡ b → (i : ℕ) → i < length (y ∷ ns)
        → (has ns x ≡ true → (j : ℕ) → j < length ns → eqb (place_in ns x) j ≡ same x (name_at ns j))
        → (b || has ns x) ≡ true → eqb (cond b 0 (suc (place_in ns x))) i ≡ same x (name_at (y ∷ ns) i)
    go true e zero l ih k = rw (same_eq y x e) (sym (same_refl x))
    go true e (suc j) l ih k = rw (eqb-zero-suc j) (later (same_eq y x e) j (omega arith) (same x (name_at ns j)) refl)
    go false e zero l ih k = rw (eqb-suc-zero (place_in ns x)) (sym (same_turned x y e))
    go false e (suc j) l ih k = rw (eqb-suc-suc (place_in ns x) j) (ih k j (omega arith))

has_add : (xs : List Name) (x z : Name) → has (xs ++ (x ∷ [])) z ≡ (same x z || has xs z)
unfolding any
has_add [] x z = refl
has_add (y ∷ xs) x z = rw (has_add xs x z) (turn (same y z) (same x z))
  where
    turn : (a b : Bool) → (a || (b || has xs z)) ≡ (b || (a || has xs z))
    turn true true = refl
    turn true false = refl
    turn false b = refl

module _ (ns : List Name) (few : length ns ≤ max_fields) (x : Name) (held : has ns x ≡ true) where
  -- it has a place
  pub place_small : place_in ns x < max_fields
  place_small = omega (arith, (place_has ns x held).0)

  -- the set of that place
  pub answers_one : (r : ℕ) → ((j : ℕ) → member r j ≡ (eqb (place_in ns x) j || member 0 j)) → Answers r ns (λ c. c x)
  answers_one r w =
      let p = place_has ns x held in
      record {
        says = λ m c k. within_with max_fields (place_in ns x) r 0 m w place_small
            ∙ (rw (within_none max_fields m, and_true) (k.marks (place_in ns x) p.0 ∙ ap c p.1));
      }

  -- one more name
  pub masks_add : (m r : ℕ) (xs : List Name) → nodup ns ≡ true → r < 18446744073709551616
      → ((j : ℕ) → member r j ≡ (eqb (place_in ns x) j || member m j)) → Masks m ns (has xs) → Masks r ns (has (xs ++ (x ∷ [])))
  masks_add m r xs single fits w k = record {
    small = fits;
    marks = λ i l. w i ∙ rw (place_same ns x i single held l, k.marks i l) (sym (has_add xs x (name_at ns i)));
    beyond = λ i l. w i ∙ rw (ne_eqb (place_in ns x) i (λ (e : place_in ns x ≡ i). absurd (omega (arith, (place_has ns x held).0))))
        (k.beyond i l);
  }

-- ---- the columns of the children

-- set has the columns of the children of t, apart from those that are left
pub record So (set : ℕ) (ns : List Name) (t : Tree) (rest : Forest) : Type 0 where
  pub held : on_any (has ns) rest ≡ true
  pub says : (m : ℕ) (c : Name → Bool) → Masks m ns c → within max_fields set m & on_any c rest ≡ on_tree c t

module _ (ns : List Name) (t : Tree) where
  plain : (c : Name → Bool) → eqb t.label.kind 1 ≡ false → on_any c t.below ≡ on_tree c t
  unfolding on_tree
  plain c k = rw k

  pub so_start : eqb t.label.kind 1 ≡ false → on_tree (has ns) t ≡ true → So 0 ns t t.below
  so_start k h = record {
    held = plain (has ns) k ∙ h;
    says = λ m c g. rw (within_none max_fields m, true_and) (plain c k);
  }

  -- the columns of a child
  pub so_held : {set : ℕ} (u : Tree) {after : Forest} → So set ns t (node u.label u.below after) → on_tree (has ns) u ≡ true
  unfolding on_any on_tree
  so_held u h = and_l _ _ h.held

  pub so_next : {set r : ℕ} (v : ℕ) (u : Tree) {after : Forest} → So set ns t (node u.label u.below after)
      → Answers v ns (λ c. on_tree c u) → ((j : ℕ) → member r j ≡ (member set j || member v j))
      → So r ns t after
  unfolding on_any on_tree
  so_next {set} {r} v u {after} h k both = record {
    held = and_r _ _ h.held;
    says = λ m c g. rw (within_both max_fields set v r m both, and_assoc, k.says m c g) (h.says m c g);
  }

  -- of all children
  pub so_end : {set : ℕ} → So set ns t none → Answers set ns (λ c. on_tree c t)
  unfolding on_any
  so_end h = record { says = λ m c g. sym (and_true _) ∙ h.says m c g }

  -- a column has no children that count
  pub so_column : {v : ℕ} → eqb t.label.kind 1 ≡ true → Answers v ns (λ c. c (nm t.label.p t.label.q))
      → Answers v ns (λ c. on_tree c t)
  unfolding on_tree
  so_column k h = rw k h

  pub column_held : eqb t.label.kind 1 ≡ true → on_tree (has ns) t ≡ true → has ns (nm t.label.p t.label.q) ≡ true
  unfolding on_tree
  column_held k h = rw k at h
