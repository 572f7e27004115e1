-- Laws of the fields with which a conjunct may move.
--     lets_window, lets_other, move_group, move_other   by the kind of a record
--     project_moves, group_moves, window_moves          the fields of each plan
--     any_named, all_let, ..                            over the trees below a plan; some_found   what is found there
-- Assumes nothing.
use mathlib.Core.Path.{◌≡◌, refl, sym, ap, ap₂, ◌∙◌}
use mathlib.Core.Bool.{Bool, true, false, not, ◌&&◌, ◌||◌, cond}
use mathlib.Core.List.{List, [], ◌∷◌}
use Prim.Native.Nat.{ℕ, ◌+◌}
use native.Mathlib.Omega.{arith}
use lib.Dec.{eqb}
use borrow.Author.Tests.{eq-eqb, ne_eqb}
use Rattle.std.specs.List.{list_any, list_all}
use Rattle.std.specs.Prelude.{Option, None, Some}
use Rattle.std.specs.Option.{is_some as found}
use Rattle.image.specs.Subtrees.{Place, places_from}
use Rattle.image.specs.declared.trees.Stretch.{Stretch}
use Rattle.image.specs.Tree.{Label, Forest, none, node, Tree, size}
use Rattle.plan.specs.Lists.{◌&◌, any, all}
use Rattle.plan.specs.Schema.{same, has}
use Rattle.plan.specs.Syntax.{Name, nm, Expr, col, num, bool, nul, bin, neg, test, between, inlist, fn, Entry, AggEntry, WinEntry, Plan, scan, filter}
use Rattle.plan.specs.Syntax.{project, join, alias, union, distinct, sort, repartition, limit, aggregate, window}
use Rattle.plan.specs.Trees.{qualifier, ident, label_e, label_p, kids_p, plan_tree, each, nothing_below, column_label, entry_label, entry_kids}
use Rattle.plan.specs.Trees.{agg_label, agg_kids, win_label, win_kids}
use Rattle.rewrite.specs.Utils.{is_volatile_expr, is_leafward_expr}
use Rattle.rewrite.specs.PushDownFilter.{names, non_pushable}
use Rattle.conjuncts.proofs.FunctionsIn.{or_nil, fn_tree}
use Rattle.writing.specs.Replaced.{is_entry, either, lookup, plant, Finds}
use Rattle.writing.proofs.Maps.{NoEntry, same_entry, lookup_none, and_is, plan_none, parts_none}
use Rattle.push_down_arms.specs.Movable.{leaf_here, fixed, is_named, named_in, partition_in, lets, lets_all, is_some, may_move}

-- ---- one part of a plan

module _ (x : Name) (t : Tree) where
  pub lets_window : t.label.kind ≡ 53 → lets x t ≡ partition_in x t.below
  unfolding lets
  lets_window h = rw (eq-eqb t.label.kind 53 h)

  pub lets_other : (t.label.kind ≡ 53 → ⊥) → (b : Bool) → is_entry t.label (qualifier x) (ident x) ≡ b → lets x t ≡ cond b (not (fixed t)) true
  unfolding lets
  lets_other h b e = rw (ne_eqb t.label.kind 53 h) (ap (λ v. cond v (not (fixed t)) true) e)

-- ---- a plan

module _ (x : Name) (t : Tree) where
  pub move_group : t.label.kind ≡ 42 → may_move t x ≡ is_some (lookup t.below (qualifier x) (ident x))
  unfolding may_move
  move_group h = rw (eq-eqb t.label.kind 42 h)

  pub move_other : (t.label.kind ≡ 42 → ⊥) → may_move t x ≡ lets_all x t.below
  unfolding may_move
  move_other h = rw (ne_eqb t.label.kind 42 h)

-- ---- the fields of each plan

-- an expression's top is leafward
leaf_label : (e : Expr) → leaf_here (label_e e) ≡ is_leafward_expr e
unfolding label_e is_leafward_expr
leaf_label (col x) = refl
leaf_label (num z) = refl
leaf_label (bool b) = refl
leaf_label (nul t) = refl
leaf_label (bin o a b) = refl
leaf_label (neg a) = refl
leaf_label (test t a) = refl
leaf_label (between n a l u) = refl
leaf_label (inlist n a xs) = refl
leaf_label (fn p q r xs) = refl

-- an entry
abbrev entry_tree : Entry → Tree
entry_tree e = record { label = entry_label e; below = entry_kids e }

fixed_entry : (e : Entry) → fixed (entry_tree e) ≡ (is_volatile_expr e.expr || is_leafward_expr e.expr)
fixed_entry e = rw (or_nil, fn_tree, leaf_label)

module _ (x : Name) where
  lets_entry : (e : Entry) → lets x (entry_tree e) ≡ cond (same e.name x) (not (is_volatile_expr e.expr || is_leafward_expr e.expr)) true
  lets_entry e =
      lets_other x (entry_tree e) (λ z. omega arith) (same e.name x) (same_entry e x)
      ∙ ap (λ b. cond (same e.name x) (not b) true) (fixed_entry e)

  -- the plan below lets every field pass
  lets_plan : (p : Plan) → lets_all x (node (label_p p) (kids_p p) none) ≡ true
  unfolding label_p lets lets_all
  lets_plan (scan t fs es) = refl
  lets_plan (filter e p) = refl
  lets_plan (project es p) = refl
  lets_plan (join k l r on f) = refl
  lets_plan (alias q p) = refl
  lets_plan (union ps) = refl
  lets_plan (distinct p) = refl
  lets_plan (sort f ks p) = refl
  lets_plan (repartition p) = refl
  lets_plan (limit n k p) = refl
  lets_plan (aggregate gs ags p) = refl
  lets_plan (window ws p) = refl

  lets_entries : (es : List Entry) (ns : Forest) → lets_all x ns ≡ true → lets_all x (each entry_label entry_kids es ns) ≡ not (non_pushable es x)
  unfolding each lets_all any ◌&◌
  lets_entries [] ns h = h
  lets_entries (e ∷ es) ns h =
      rw (lets_entry e, lets_entries es ns h) (go (same e.name x) (is_volatile_expr e.expr || is_leafward_expr e.expr) (non_pushable es x))
    where
      go : (s b r : Bool) → (cond s (not b) true && not r) ≡ not ((s & b) || r)
      go true true r = refl
      go true false r = refl
      go false b r = refl

  pub project_moves : (es : List Entry) (p : Plan) → may_move (plan_tree (project es p)) x ≡ not (non_pushable es x)
  unfolding label_p kids_p
  project_moves es p = move_other x (plan_tree (project es p)) (λ z. omega arith) ∙ lets_entries es _ (lets_plan p)

  found_entries : (es : List Entry) (ns : Forest) → NoEntry ns
      → is_some (lookup (each entry_label entry_kids es ns) (qualifier x) (ident x)) ≡ has (names es) x
  unfolding each any
  found_entries [] ns h = rw (lookup_none ns (qualifier x) (ident x) h)
  found_entries (e ∷ es) ns h = rw (same_entry e x) (go (same e.name x) (found_entries es ns h))
    where
      go : (b : Bool) → is_some (lookup (each entry_label entry_kids es ns) (qualifier x) (ident x)) ≡ has (names es) x
          → is_some (either b (entry_kids e) (lookup (each entry_label entry_kids es ns) (qualifier x) (ident x))) ≡ (b || has (names es) x)
      go true k = refl
      go false k = k

  pub group_moves : (gs : List Entry) (ags : List AggEntry) (p : Plan) → may_move (plan_tree (aggregate gs ags p)) x ≡ has (names gs) x
  unfolding label_p kids_p
  group_moves gs ags p =
      move_group x (plan_tree (aggregate gs ags p)) refl
      ∙ found_entries gs _ (parts_none agg_label agg_kids ags _ (λ a. refl) (plan_none p, tt))

  named_columns : (xs : List Name) → named_in x (each column_label nothing_below xs none) ≡ has xs x
  unfolding each named_in any
  named_columns [] = refl
  named_columns (y ∷ xs) = ap₂ ◌||◌ (go y x) (named_columns xs)
    where
      go : (y x : Name) → is_named x (column_label y) ≡ same y x
      go (nm q n) (nm r m) = and_is (eqb q r) (eqb n m)

  lets_windows : (ws : List WinEntry) (ns : Forest) → lets_all x ns ≡ true
      → lets_all x (each win_label win_kids ws ns) ≡ all (λ (w : WinEntry). has w.parts x) ws
  unfolding each lets_all all partition_in
  lets_windows [] ns h = h
  lets_windows (w ∷ ws) ns h =
      ap₂ ◌&&◌ (lets_window x (record { label = win_label w; below = win_kids w }) refl ∙ named_columns w.parts) (lets_windows ws ns h) ∙ and_is _ _

  pub window_moves : (ws : List WinEntry) (p : Plan) → may_move (plan_tree (window ws p)) x ≡ all (λ (w : WinEntry). has w.parts x) ws
  unfolding label_p kids_p
  window_moves ws p = move_other x (plan_tree (window ws p)) (λ z. omega arith) ∙ lets_windows ws _ (lets_plan p)

-- ---- over the trees below a plan

-- a tree and its children, by the first of them
pub partition_none : (x : Name) {f : Forest} → f ≡ none → false ≡ partition_in x f
unfolding partition_in
partition_none x e = rw e

pub partition_rest : (x : Name) {l : Label} {f cs ns : Forest} → f ≡ node l cs ns → named_in x ns ≡ partition_in x f
unfolding partition_in
partition_rest x e = rw e

pub any_named : (x : Name) (s : List ℕ) (b n : ℕ) (f : Forest) → list_any (λ (p : Place). is_named x p.tree.label) (places_from s b n f) ≡ named_in x f
unfolding named_in places_from
any_named x s b n none = refl
any_named x s b n (node l cs ns) = ap (λ b. is_named x l || b) (any_named x s b (n + 1 + size cs) ns)

pub all_let : (x : Name) (s : List ℕ) (b n : ℕ) (f : Forest) → list_all (λ (p : Place). lets x p.tree) (places_from s b n f) ≡ lets_all x f
unfolding lets_all places_from
all_let x s b n none = refl
all_let x s b n (node l cs ns) = ap (λ b. lets x (record { label = l; below = cs }) && b) (all_let x s b (n + 1 + size cs) ns)

-- the first of some trees, and the others
module _ (x : Name) {f : Forest} {l : Label} {cs ns : Forest} (e : f ≡ node l cs ns) where
  pub named_here : is_named x l ≡ true → named_in x f ≡ true
  unfolding named_in
  named_here h = rw (e, h) refl

  pub named_next : is_named x l ≡ false → named_in x f ≡ named_in x ns
  unfolding named_in
  named_next h = rw (e, h) refl

  pub lets_here : lets x (record { label = l; below = cs }) ≡ false → lets_all x f ≡ false
  unfolding lets_all
  lets_here h = rw (e, h) refl

  pub lets_next : lets x (record { label = l; below = cs }) ≡ true → lets_all x f ≡ lets_all x ns
  unfolding lets_all
  lets_next h = rw (e, h) refl

-- there is none
pub named_none : (x : Name) {f : Forest} → f ≡ none → named_in x f ≡ false
unfolding named_in
named_none x e = rw e refl

pub lets_none : (x : Name) {f : Forest} → f ≡ none → lets_all x f ≡ true
unfolding lets_all
lets_none x e = rw e refl

-- what begins with a tree is something
pub some_plant : (f : Forest) {t : Tree} {others : Forest} → f ≡ plant t others → true ≡ is_some f
some_plant f e = sym (ap is_some e)

-- .. and so is what is found
pub some_found : {M : ℕ} (map : Stretch M) (f : Forest) (o : Option (Stretch M)) → Finds f map o → found o ≡ is_some f
some_found map f None h = sym (ap is_some h)
some_found map f (Some x) h = some_plant f h.is
