-- Laws of the first scan of a table.
-- Assumes nothing.
use mathlib.Core.Path.{◌≡◌, refl, sym, ap, subst, ◌∙◌}
use mathlib.Core.Bool.{Bool, true, false, cond, ◌&&◌}
use mathlib.Core.List.{List, [], ◌∷◌}
use Prim.Native.Nat.{ℕ, zero, suc, ◌+◌, ◌*◌, ◌≤◌, ◌<◌}
use native.Mathlib.Omega.{arith}
use lib.Dec.{eqb, ltb}
use lib.ListN.{drop}
use lib.Seq.{drop-drop}
use borrow.Author.Tests.{eq-eqb, ne_eqb, eqb-true, eqb-false, ltb-true, ltb-false}
use Rattle.check_fields.specs.declared.questions.Question.TheVariants.{Every}
use Rattle.plan.specs.Kinds as K
use Rattle.image.specs.Word.{word}
use Rattle.image.specs.Tree.{Label, Forest, none, node, size, Stands, Tree, At, label_at}
use Rattle.image.specs.Lowest.{alone}
use Rattle.plan.specs.Lists.{◌&◌}
use Rattle.acceptance.specs.Types.{same_types}
use Rattle.check_fields.specs.Fields.{Schema, made}
use Rattle.check_fields.specs.Rules.{types_in, scan_types}
use Rattle.check_fields.specs.Count.{hits, counted}
use Rattle.check_fields.proofs.Counting.{counted_all}
use Rattle.image.specs.Subtrees.{Siblings, Subtree, Below, forest, tree_of}
use Rattle.image.proofs.Subtrees.{tree_is}

-- ---- the first scan

-- both sides of the code's test
and_same : (a b : Bool) → (a && b) ≡ (a & b)
unfolding ◌&◌
and_same true b = refl
and_same false b = refl

-- a record by the code's test of it
scan_by : (t : ℕ) (d : List ℕ) (l : Label) (cs ns : Forest) (k p : ℕ) {x : Bool} → k ≡ l.kind → p ≡ l.p → (eqb k (K.number_p K.TableScan) && eqb p t) ≡ x
    → scan_types t d (node l cs ns) ≡ cond x (types_in (made [] cs)) (scan_types t (scan_types t d ns) cs)
unfolding scan_types
scan_by t d l cs ns k p e g h =
    ap (λ (y : Bool). cond y (types_in (made [] cs)) (scan_types t (scan_types t d ns) cs))
    (sym (and_same (eqb l.kind (K.number_p K.TableScan)) (eqb l.p t)) ∙ ap (λ (n : ℕ). eqb n (K.number_p K.TableScan) && eqb l.p t) (sym e)
    ∙ ap (λ (n : ℕ). eqb k (K.number_p K.TableScan) && eqb n t) (sym g) ∙ h)

-- the record with this number is a scan of the table
abbrev pub scans_at : ℕ → List ℕ → ℕ → Bool
scans_at t s i = eqb (word (drop (32 * i) s) 0) 32 && eqb (word (drop (32 * i) s) 4) t

module _ (t : ℕ) (s : List ℕ) where
  -- the forest's records stand in s from the number b on
  abbrev StandsAt : Forest → ℕ → Type 0
  StandsAt f b = Stands f (drop (32 * b) s) b

  -- the parts of a forest that stands there
  child_at : (l : Label) (cs ns : Forest) (b : ℕ) → StandsAt (node l cs ns) b → StandsAt cs (b + 1)
  child_at l cs ns b h = let e : 32 * b + 32 ≡ 32 * (b + 1) = omega arith in rw (drop-drop, e) at h.below

  next_at : (l : Label) (cs ns : Forest) (b : ℕ) → StandsAt (node l cs ns) b → StandsAt ns (b + 1 + size cs)
  next_at l cs ns b h = let e : 32 * b + 32 * suc (size cs) ≡ 32 * (b + 1 + size cs) = omega arith in rw (drop-drop, e) at h.after

  -- the first record of a forest that stands there
  scan_at : (d : List ℕ) (l : Label) (cs ns : Forest) (b : ℕ) {x : Bool} → label_at (drop (32 * b) s) ≡ l → scans_at t s b ≡ x
      → scan_types t d (node l cs ns) ≡ cond x (types_in (made [] cs)) (scan_types t (scan_types t d ns) cs)
  scan_at d l cs ns b e h =
      scan_by t d l cs ns (word (drop (32 * b) s) 0) (word (drop (32 * b) s) 4) (ap (λ (m : Label). m.kind) e) (ap (λ (m : Label). m.p) e) h

  -- none of its records is a scan of the table
  pub scan_none : (d : List ℕ) (f : Forest) (b : ℕ) → StandsAt f b → ((i : ℕ) → b ≤ i → i < b + size f → scans_at t s i ≡ false)
      → scan_types t d f ≡ d
  unfolding scan_types
  scan_none d none b h z = refl
  scan_none d (node l cs ns) b h z =
      scan_at d l cs ns b h.head.label (z b (omega arith) (omega arith))
      ∙ scan_none (scan_types t d ns) cs (b + 1) (child_at l cs ns b h) (λ i p q. z i (omega arith) (omega arith))
      ∙ scan_none d ns (b + 1 + size cs) (next_at l cs ns b h) (λ i p q. z i (omega arith) (omega arith))

  -- what the lowest scan of the table, at the record i, tells of the types
  pub record Lowest (ts : List ℕ) (i : ℕ) : Type 0 where
    pub tree : Tree
    pub at : At tree (drop (32 * i) s) i
    pub types : ts ≡ types_in (made [] tree.below)

  -- a tree that is that scan
  here_lowest : (d : List ℕ) (l : Label) (cs ns : Forest) (b : ℕ) → At (record { label = l; below = cs }) (drop (32 * b) s) b → scans_at t s b ≡ true
      → Lowest (scan_types t d (node l cs ns)) b
  here_lowest d l cs ns b h e =
      record { tree = record { label = l; below = cs }; at = h; types = scan_at d l cs ns b h.head.label e }

  -- it is among the records of a forest
  lowest_in : (d : List ℕ) (f : Forest) (b i : ℕ) → StandsAt f b → b ≤ i → i < b + size f → scans_at t s i ≡ true
      → ((j : ℕ) → b ≤ j → j < i → scans_at t s j ≡ false) → Lowest (scan_types t d f) i
  lowest_in d none b i h p q e z = absurd (omega arith)
  lowest_in d (node l cs ns) b i h p q e z =
      go (eqb b i) refl (ltb i (b + 1 + size cs)) refl
      (λ u v. lowest_in (scan_types t d ns) cs (b + 1) i (child_at l cs ns b h) u v e (λ j m n. z j (omega arith) n))
      (λ u. lowest_in d ns (b + 1 + size cs) i (next_at l cs ns b h) u (omega arith) e (λ j m n. z j (omega arith) n))
    where
      past : b < i → scan_types t d (node l cs ns) ≡ scan_types t (scan_types t d ns) cs
      past g = scan_at d l cs ns b h.head.label (z b (omega arith) g)

      go : (x : Bool) → eqb b i ≡ x → (y : Bool) → ltb i (b + 1 + size cs) ≡ y
          → (b + 1 ≤ i → i < b + 1 + size cs → Lowest (scan_types t (scan_types t d ns) cs) i) → (b + 1 + size cs ≤ i → Lowest (scan_types t d ns) i)
          → Lowest (scan_types t d (node l cs ns)) i
      go true g y k in-below in_after =
          subst (Lowest (scan_types t d (node l cs ns))) (eqb-true b i g)
          (here_lowest d l cs ns b (record { head = h.head; below = h.below }) (ap (scans_at t s) (eqb-true b i g) ∙ e))
      go false g true k in-below in_after =
          let n : b ≡ i → ⊥ = eqb-false b i g in
          subst (λ (ts : List ℕ). Lowest ts i) (sym (past (omega arith))) (in-below (omega arith) (ltb-true i (b + 1 + size cs) k))
      go false g false k in-below in_after =
          let m : b + 1 + size cs ≤ i = ltb-false i (b + 1 + size cs) k in
          subst (λ (ts : List ℕ). Lowest ts i)
          (sym (past (omega arith)
          ∙ scan_none (scan_types t d ns) cs (b + 1) (child_at l cs ns b h) (λ j u v. z j (omega arith) (omega arith))))
          (in_after m)

  -- ---- of the whole image

  module _ (u : Tree) (h : At u s 0) where
    below_at : StandsAt u.below 1
    below_at = h.below

    -- no record is a scan of the table
    pub none_scans : ((i : ℕ) → i < suc (size u.below) → scans_at t s i ≡ false) → scan_types t [] (alone u) ≡ []
    unfolding scan_types
    none_scans z =
        scan_at [] u.label u.below none 0 h.head.label (z 0 (omega arith))
        ∙ scan_none [] u.below 1 below_at (λ i p q. z i (omega arith))

    -- the record i is the lowest
    pub lowest_scan : (i : ℕ) → i < suc (size u.below) → scans_at t s i ≡ true → ((j : ℕ) → j < i → scans_at t s j ≡ false)
        → Lowest (scan_types t [] (alone u)) i
    unfolding scan_types
    lowest_scan zero l e z = here_lowest [] u.label u.below none 0 h e
    lowest_scan (suc i) l e z =
        subst (λ (ts : List ℕ). Lowest ts (suc i))
        (sym (scan_at [] u.label u.below none 0 h.head.label (z 0 (omega arith))))
        (lowest_in [] u.below 1 (suc i) below_at (omega arith) (omega arith) e (λ j p q. z j q))

-- the root stands at the start of the image
pub root_at : (x : Subtree) → x.number ≡ 0 → At (tree_of x) x.image.now 0
root_at x e = subst (λ (n : ℕ). At (tree_of x) (drop (32 * n) x.image.now) n) e x.stood.at

-- the types that the lowest scan of the table tells are those of what is below the record
pub types_there : {x : Subtree} {y : Siblings} {t i : ℕ} {s ts : List ℕ} → Below x y → x.image.now ≡ s → x.number ≡ i → Lowest t s ts i
    → ts ≡ types_in (made [] (forest y))
types_there {x} w es en z =
    z.types ∙ ap (λ (t : Tree). types_in (made [] t.below)) (sym (tree_is x z.tree es en z.at)) ∙ ap (λ (f : Forest). types_in (made [] f)) (sym w.is)

-- a schema has no fields just where its types are none
pub no_fields : (s : Schema) {n : ℕ} → n ≡ counted (hits Every) s → eqb n 0 ≡ same_types (types_in s) []
unfolding types_in
no_fields [] {n} e = eq-eqb n 0 (e ∙ counted_all [])
no_fields (f ∷ s) {n} e = ne_eqb n 0 (λ q. omega (arith, counted_all (f ∷ s)))
