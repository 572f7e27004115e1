-- How many conjuncts a list has once the entries of a plan replace its columns.
--     single_label       a conjunct is no And
--     fits_map           the expressions that a plan's entries name have integers of 64 bits
--     single_found       where no entry names a conjunct, one conjunct is left of it
--     standing_found     where one does, its expression stands in the image
--     counts-..          a list that counts
-- Assumes nothing.
use Prim.Native.Nat.{ℕ, ◌+◌, ◌-◌, ◌≤◌, ◌<◌}
use native.Mathlib.Omega.{arith}
use mathlib.Core.Path.{◌≡◌, refl, sym, ap, ◌∙◌}
use mathlib.Core.Bool.{Bool, true, false, cond}
use mathlib.Core.List.{List, [], ◌∷◌, ◌++◌}
use borrow.Author.Rules.{rules}
use Rattle.std.specs.Prelude.{IsTrue, ◌↔◌}
use lib.Dec.{ltb}
use lib.ListN.{length, get_or, drop, length-append}
use borrow.Author.Tests.{ltb-true, ltb-false}
use Rattle.image.specs.Subtrees.{Subtree, tree_of}
use Rattle.image.specs.Tree.{Forest, none, Tree}
use Rattle.image.specs.Limits.{work_bytes, max_list, max_below}
use Rattle.plan.specs.Lists.{flatten}
use Rattle.plan.specs.Schema.{same}
use Rattle.plan.specs.Syntax.{Name, Expr, col, num, bool, nul, bin, neg, test, between, inlist, fn, Exprs, enil, econs, Entry}
use Rattle.plan.specs.Syntax.{Plan, scan, filter, project, join, alias, union, distinct, sort, repartition, limit, aggregate, window}
use Rattle.plan.specs.Integers.{FitsE, FitsEs, FitsP, Every}
use Rattle.plan.specs.Trees.{label_e, kids_e, expr_tree, plan_tree}
use Rattle.rewrite.specs.Utils.{replace_cols, replace_cols_all, split_conjunction}
use Rattle.rewrite.specs.PushDownFilter.{pick}
use Rattle.conjuncts.specs.Items.{Conjuncts, FALSE, listed, Holds, Item, Lists}
use Rattle.conjuncts.specs.Labels.{is_and}
use Rattle.conjuncts.specs.Standing.{Standing, StandingP}
use Rattle.conjuncts.proofs.Listed.{lists_none, lists_add, lists_length, known_of, next, at_end}
use Rattle.conjuncts.proofs.Operands.{Both, and_label, single}
use Rattle.conjuncts.proofs.Standing.{standing_tree}
use Rattle.writing.specs.Replaced.{Begins, plant, value_for}
use Rattle.writing.proofs.Entries.{deep_plant, replaced_below, replaced_plant}
use Rattle.writing.specs.Maps.{map_of}
use Rattle.writing.proofs.Maps.{plan_is, plan_map, replaced_expr}
use Rattle.push_down_arms.specs.Divided.{parts, Counts}
use Rattle.push_down_base.proofs.Plain.{split_some}
use Rattle.push_down_base.proofs.Steps.{deep_more}

-- ---- conjuncts are no Ands

pub single_label : (e : Expr) → split_conjunction e ≡ e ∷ [] → is_and (label_e e) ≡ false
unfolding split_conjunction
single_label e h = go (is_and (label_e e)) refl
  where
    go : (b : Bool) → is_and (label_e e) ≡ b → b ≡ false
    go false i = refl
    go true i =
        let k : Both e = and_label e i in
        let n : length (split_conjunction k.lhs ++ split_conjunction k.rhs) ≡ 1 =
        sym (ap (λ x. length (split_conjunction x)) k.is) ∙ ap length h in
        absurd (omega (arith, split_some k.lhs, split_some k.rhs, length-append (split_conjunction k.lhs) (split_conjunction k.rhs)))

-- ---- integers

fits_pick : (es : List Entry) (x : Name) → Every (λ (e : Entry). FitsE e.expr) es → FitsE (pick es x)
unfolding pick
fits_pick [] x h = tt
fits_pick (e ∷ es) x h = go (same e.name x) (fits_pick es x h.1)
  where
    go : (b : Bool) → FitsE (pick es x) → FitsE (cond b e.expr (pick es x))
    go true k = h.0
    go false k = k

pub fits_map : (p : Plan) (x : Name) → FitsP p → FitsE (map_of p x)
fits_map (project es p) x h = fits_pick es x h.0
fits_map (aggregate gs ags p) x h = fits_pick gs x h.0
fits_map (scan t fs es) x h = tt
fits_map (filter e p) x h = tt
fits_map (join k l r on f) x h = tt
fits_map (alias q p) x h = tt
fits_map (union ps) x h = tt
fits_map (distinct p) x h = tt
fits_map (sort f ks p) x h = tt
fits_map (repartition p) x h = tt
fits_map (limit n k p) x h = tt
fits_map (window ws p) x h = tt

module _ (σ : Name → Expr) (h : (x : Name) → FitsE (σ x)) where
  mutual
    unfolding replace_cols replace_cols_all

    pub fits_replaced : (e : Expr) → FitsE e → FitsE (replace_cols σ e)
    fits_replaced (col x) f = h x
    fits_replaced (num z) f = f
    fits_replaced (bool b) f = tt
    fits_replaced (nul t) f = tt
    fits_replaced (bin o a b) f = (fits_replaced a f.0, fits_replaced b f.1)
    fits_replaced (neg a) f = fits_replaced a f
    fits_replaced (test t a) f = fits_replaced a f
    fits_replaced (between n a l u) f = (fits_replaced a f.0, fits_replaced l f.1, fits_replaced u f.2)
    fits_replaced (inlist n a xs) f = (fits_replaced a f.0, fits_replaced_all xs f.1)
    fits_replaced (fn p q r xs) f = fits_replaced_all xs f

    fits_replaced_all : (es : Exprs) → FitsEs es → FitsEs (replace_cols_all σ es)
    fits_replaced_all enil f = tt
    fits_replaced_all (econs x xs) f = (fits_replaced x f.0, fits_replaced_all xs f.1)

-- ---- what an entry names

module _ (map t : Subtree) (e : Expr) (p : Plan) (k : StandingP map.image.now map.number p) (is : tree_of t ≡ expr_tree e) where
  found_here : value_for (tree_of map) (tree_of t).label ≡ value_for (plan_tree p) (label_e e)
  found_here = ap (λ (u : Tree). value_for u (tree_of t).label) (plan_is map k) ∙ ap (λ (u : Tree). value_for (plan_tree p) u.label) is

  -- none does: what stands at the top of the conjunct stays
  pub single_found : value_for (tree_of map) (tree_of t).label ≡ none → split_conjunction e ≡ e ∷ []
      → length (split_conjunction (replace_cols (map_of p) e)) ≡ 1
  single_found z h =
      let i : expr_tree (replace_cols (map_of p) e) ≡ _ = sym (replaced_expr (plan_tree p) (map_of p) (plan_map p) e)
      ∙ replaced_below (plan_tree p) (expr_tree e) (sym found_here ∙ z) in
      let j : label_e (replace_cols (map_of p) e) ≡ label_e e = ap (λ (u : Tree). u.label) i in
      ap length (single (replace_cols (map_of p) e) (ap is_and j ∙ single_label e h))

  -- one does
  pub standing_plant : (x : Subtree) {others : Forest} → length map.image.now ≤ work_bytes → FitsE e → x.image.now ≡ map.image.now
      → value_for (tree_of map) (tree_of t).label ≡ plant (tree_of x) others → Standing map.image.now x.number (replace_cols (map_of p) e)
  standing_plant x short f image b =
      let c : value_for (plan_tree p) (label_e e) ≡ plant (tree_of x) _ = sym found_here ∙ b in
      let d = deep_plant (plan_tree p) (label_e e) (tree_of x) k.deep c in
      let i : tree_of x ≡ expr_tree (replace_cols (map_of p) e) =
      replaced_plant (plan_tree p) (expr_tree e) (tree_of x) c ∙ replaced_expr (plan_tree p) (map_of p) (plan_map p) e in
      rw (← image) (standing_tree x (replace_cols (map_of p) e) i (rw image short)
      (deep_more (kids_e (replace_cols (map_of p) e)) (max_below - 1 - 1) max_below (rw i at d.1) (omega arith))
      (fits_replaced (map_of p) (λ y. fits_map p y k.fits) e f))

  -- .. as the code finds it
  pub standing_found : {x : Subtree} → length map.image.now ≤ work_bytes → FitsE e → Begins (value_for (tree_of map) (tree_of t).label) map x
      → Standing map.image.now x.number (replace_cols (map_of p) e)
  standing_found {x} short f b = standing_plant x short f b.image b.is

-- FALSE has no columns
pub false_parts : (σ : Name → Expr) (e : Expr) → e ≡ FALSE → length (split_conjunction (replace_cols σ e)) ≡ 1
unfolding split_conjunction replace_cols
false_parts σ e h = rw h

-- ---- a list that counts

module _ {s : List ℕ} where
  pub counts_none : {c : Conjuncts} → (listed c ≡ []) × (c.len ≡ 0) → Counts s c 0
  counts_none h = record { exprs = []; lists = lists_none h; count = refl }

  -- an item more
  pub counts_one : {c r : Conjuncts} {e : Expr} {k j : ℕ} (n : ℕ) → Counts s c k → Item s n e → j ≡ 1
      → ((xs : List ℕ) → Holds c xs → Holds r (xs ++ (n ∷ []))) → Counts s r (k + j)
  counts_one {e = e} n h i one f = record {
    exprs = h.exprs ++ (e ∷ []);
    lists = lists_add n h.lists i f;
    count = length-append h.exprs (e ∷ []) ∙ (let z = h.count in omega arith);
  }

  -- so many more
  pub counts_more : {c r : Conjuncts} {k : ℕ} (es : List Expr) → (h : Counts s c k) → Lists s r (h.exprs ++ es) → Counts s r (k + length es)
  counts_more es h l = record { exprs = h.exprs ++ es; lists = l; count = length-append h.exprs es ∙ (let z = h.count in omega arith) }

-- so many are counted, and the rest completes them
pub record Counted (s : List ℕ) (r : Conjuncts) (σ : Name → Expr) (es : List Expr) (i : ℕ) : Type 0 where
  pub done : ℕ
  pub counts : Counts s r done
  pub is : done + parts σ (drop i es) ≡ parts σ es

module _ {s : List ℕ} {σ : Name → Expr} {es : List Expr} where
  pub counted_start : {c : Conjuncts} → (listed c ≡ []) × (c.len ≡ 0) → Counted s c σ es 0
  counted_start h = record { done = 0; counts = counts_none h; is = omega arith }

  pub counted_next : {c r : Conjuncts} (i : ℕ) → i < length es → (h : Counted s c σ es i)
      → Counts s r (h.done + length (split_conjunction (replace_cols σ (get_or es i FALSE)))) → Counted s r σ es (i + 1)
  unfolding flatten
  counted_next i lt h k =
      let e : parts σ (drop i es) ≡ length (split_conjunction (replace_cols σ (get_or es i FALSE))) + parts σ (drop (i + 1) es) =
      ap (parts σ) (next es i lt) ∙ length-append (split_conjunction (replace_cols σ (get_or es i FALSE))) _ in
      record { done = _; counts = k; is = omega (arith, h.is) }

  -- it is too long exactly if the count is
  pub counted_all : {r : Conjuncts} {b : Bool} (i : ℕ) → length es ≤ i → (IsTrue b ↔ (max_list < r.len)) → Counted s r σ es i
      → b ≡ ltb max_list (parts σ es)
  unfolding flatten
  counted_all {r} {b} i le long h =
      let z : parts σ (drop i es) ≡ 0 = ap (parts σ) (at_end es i le) in
      let n : length h.counts.exprs ≡ parts σ es = omega (arith, h.counts.count, h.is) in
      go b (ltb max_list (parts σ es)) refl refl n
    where
      go : (a c : Bool) → b ≡ a → ltb max_list (parts σ es) ≡ c → length h.counts.exprs ≡ parts σ es → a ≡ c
      go true true e f n = refl
      go false false e f n = refl
      go true false e f n =
          let m = ltb-false max_list (parts σ es) f in
          let l : max_list < r.len = long.0 (search (rules, e)) in
          absurd (omega (arith, l, (known_of h.counts.lists (omega arith)).most))
      go false true e f n =
          let no : max_list < r.len → ⊥ = λ l. let t : IsTrue b = long.1 l in search (rules, e) in
          let m : r.len ≤ max_list = omega (arith, no) in
          absurd (omega (arith, ltb-true max_list (parts σ es) f, lists_length h.counts.lists m))
