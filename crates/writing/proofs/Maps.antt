-- Entries replace columns as `replace_cols` does with the expressions that they name.
--     replaced_expr       an expression of which each column is replaced so
--     entries_map         entries in front of trees that are none
--     plan_map            those of a plan: of a Projection, and the group entries of an Aggregate
--     maps_to, ..         the same of a tree as the code has it, and how deep a writer may begin over it
-- Assumes nothing.
use mathlib.Core.Path.{◌≡◌, refl, sym, ap, subst, ◌∙◌}
use mathlib.Core.Bool.{Bool, true, false, ◌&&◌, cond}
use mathlib.Core.List.{List, [], ◌∷◌}
use mathlib.Core.Option as O
use mathlib.Core.Option.{Option, some}
use Prim.Native.Nat.{ℕ, suc, ◌+◌, ◌-◌, ◌*◌, ◌≤◌}
use native.Mathlib.Omega.{arith}
use lib.Dec.{eqb}
use Rattle.image.specs.Limits.{max_below, max_depth, Shallow}
use Rattle.image.specs.Places.{Stood}
use Rattle.image.specs.Room.{Low}
use Rattle.image.specs.Subtrees.{Subtree, tree_of}
use Rattle.image.specs.declared.trees.Stretch.{Stretch}
use Rattle.image.specs.Tree.{Label, Forest, none, node, Tree, Deep, Readable}
use Rattle.image.proofs.Subtrees.{tree_is}
use Rattle.plan.specs.Lists.{◌&◌}
use Rattle.plan.specs.Schema.{same}
use Rattle.plan.specs.Syntax.{Name, nm, Expr, col, num, bool, nul, bin, neg, test, between, inlist, fn, Exprs, enil, econs, Entry}
use Rattle.plan.specs.Syntax.{Plan, scan, filter, project, join, alias, union, distinct, sort, repartition, limit, aggregate, window, Plans}
use Rattle.plan.specs.Syntax.{pnil, pcons}
use Rattle.plan.specs.Trees.{qualifier, ident, label_e, kids_e, forest_e, expr_tree, each, entry_label, entry_kids, agg_label, agg_kids}
use Rattle.plan.specs.Trees.{nothing_below, field_label, pair_label, pair_kids, key_label, key_kids, win_label, win_kids, filter_kids, label_p, kids_p}
use Rattle.plan.specs.Trees.{forest_p, plan_tree}
use Rattle.rewrite.specs.Utils.{replace_cols, replace_cols_all}
use Rattle.rewrite.specs.PushDownFilter.{pick}
use Rattle.conjuncts.specs.Items.{Found}
use Rattle.conjuncts.specs.Standing.{Standing, StandingP}
use Rattle.conjuncts.proofs.Standing.{tree_found}
use Rattle.writing.specs.Replaced.{LowOver, is_entry, either, lookup, first_or, plant, replaced_any, replaced}
use Rattle.writing.specs.Maps.{MapsTo, Over, map_of}

-- the entries of m give each column what σ does
abbrev pub Gives : Tree → (Name → Expr) → Type 0
Gives m σ = (x : Name) → first_or (lookup m.below (qualifier x) (ident x)) (expr_tree (col x)) ≡ expr_tree (σ x)

-- ---- expressions

-- a record over trees
abbrev over : Label → Forest → Tree
over l f = record { label = l; below = f }

-- one tree of a record's gives way to an equal one
swap : {t u : Tree} (l : Label) (f : Tree → Forest) → t ≡ u → over l (f t) ≡ over l (f u)
swap l f e = ap (λ t. over l (f t)) e

module _ (m : Tree) (σ : Name → Expr) (h : Gives m σ) where
  -- the tree of an expression whose columns are replaced
  abbrev new : Expr → Tree
  new e = expr_tree (replace_cols σ e)

  -- where each column is replaced so, an expression is
  mutual
    unfolding label_e kids_e forest_e replace_cols replace_cols_all

    pub replaced_expr : (e : Expr) → replaced m (expr_tree e) ≡ expr_tree (replace_cols σ e)
    replaced_expr (col x) = h x
    replaced_expr (num z) = refl
    replaced_expr (bool b) = refl
    replaced_expr (nul t) = refl
    replaced_expr (bin o a b) =
        swap (label_e (bin o a b)) (λ t. plant t (plant (replaced m (expr_tree b)) none)) (replaced_expr a)
        ∙ swap (label_e (bin o a b)) (λ t. plant (new a) (plant t none)) (replaced_expr b)
    replaced_expr (neg a) = swap (label_e (neg a)) (λ t. plant t none) (replaced_expr a)
    replaced_expr (test t a) = swap (label_e (test t a)) (λ t. plant t none) (replaced_expr a)
    replaced_expr (between n a l u) =
        swap (label_e (between n a l u)) (λ t. plant t (plant (replaced m (expr_tree l)) (plant (replaced m (expr_tree u)) none))) (replaced_expr a)
        ∙ (swap (label_e (between n a l u)) (λ t. plant (new a) (plant t (plant (replaced m (expr_tree u)) none))) (replaced_expr l)
        ∙ swap (label_e (between n a l u)) (λ t. plant (new a) (plant (new l) (plant t none))) (replaced_expr u))
    replaced_expr (inlist n a xs) =
        swap (label_e (inlist n a xs)) (λ t. plant t (replaced_any m (forest_e xs))) (replaced_expr a)
        ∙ ap (λ (f : Forest). over (label_e (inlist n a xs)) (plant (new a) f)) (replaced_exprs xs)
    replaced_expr (fn p q r xs) = ap (over (label_e (fn p q r xs))) (replaced_exprs xs)

    replaced_exprs : (xs : Exprs) → replaced_any m (forest_e xs) ≡ forest_e (replace_cols_all σ xs)
    replaced_exprs enil = refl
    replaced_exprs (econs x xs) =
        ap (λ (t : Tree). plant t (replaced_any m (forest_e xs))) (replaced_expr x)
        ∙ ap (plant (new x)) (replaced_exprs xs)

-- ---- entries

-- no tree of the forest is an entry
abbrev pub NoEntry : Forest → Type 0
NoEntry none = Unit {0}
NoEntry (node l cs ns) = (eqb l.kind 49 ≡ false) × NoEntry ns

-- nothing is found where there is no entry
pub lookup_none : (f : Forest) (p q : ℕ) → NoEntry f → lookup f p q ≡ none
lookup_none none p q h = refl
lookup_none (node l cs ns) p q h = rw h.0 (lookup_none ns p q h.1)

-- the two conjunctions of Booleans are one
pub and_is : (a b : Bool) → (a && b) ≡ (a & b)
unfolding ◌&◌
and_is true b = refl
and_is false b = refl

-- an entry is looked up by its name
pub same_entry : (e : Entry) (x : Name) → is_entry (entry_label e) (qualifier x) (ident x) ≡ same e.name x
same_entry e x = go e.name x
  where
    go : (y x : Name) → (eqb (qualifier y) (qualifier x) && eqb (ident y) (ident x)) ≡ same y x
    go (nm q n) (nm r k) = and_is (eqb q r) (eqb n k)

-- an entry in front of others, by whether it has the name
one_entry : (b : Bool) (e : Entry) (f : Forest) (t : Tree) (x : Expr) → first_or f t ≡ expr_tree x
    → first_or (either b (entry_kids e) f) t ≡ expr_tree (cond b e.expr x)
one_entry true e f t x h = refl
one_entry false e f t x h = h

-- entries in front of trees that are none
pub entries_map : (es : List Entry) (ns : Forest) (x : Name) → NoEntry ns
    → first_or (lookup (each entry_label entry_kids es ns) (qualifier x) (ident x)) (expr_tree (col x)) ≡ expr_tree (pick es x)
unfolding each pick
entries_map [] ns x h = rw (lookup_none ns (qualifier x) (ident x) h)
entries_map (e ∷ es) ns x h = rw (same_entry e x) (one_entry (same e.name x) e _ _ _ (entries_map es ns x h))

-- ---- plans

-- a run of parts that are no entries
pub parts_none : {A : Type 0} (l : A → Label) (k : A → Forest) (xs : List A) (ns : Forest)
    → ((x : A) → eqb (l x).kind 49 ≡ false) → NoEntry ns → NoEntry (each l k xs ns)
unfolding each
parts_none l k [] ns f h = h
parts_none l k (x ∷ xs) ns f h = (f x, parts_none l k xs ns f h)

-- an expression is no entry
expr_none : (e : Expr) → eqb (label_e e).kind 49 ≡ false
unfolding label_e
expr_none (col x) = refl
expr_none (num z) = refl
expr_none (bool b) = refl
expr_none (nul t) = refl
expr_none (bin o a b) = refl
expr_none (neg a) = refl
expr_none (test t a) = refl
expr_none (between n a l u) = refl
expr_none (inlist n a xs) = refl
expr_none (fn p q r xs) = refl

-- nor is a plan
pub plan_none : (p : Plan) → eqb (label_p p).kind 49 ≡ false
unfolding label_p
plan_none (scan t fs es) = refl
plan_none (filter e p) = refl
plan_none (project es p) = refl
plan_none (join k l r on f) = refl
plan_none (alias q p) = refl
plan_none (union ps) = refl
plan_none (distinct p) = refl
plan_none (sort f ks p) = refl
plan_none (repartition p) = refl
plan_none (limit n k p) = refl
plan_none (aggregate gs ags p) = refl
plan_none (window ws p) = refl

filter_none : (f : Option Expr) → NoEntry (filter_kids f)
filter_none O.none = tt
filter_none (some e) = (expr_none e, tt)

plans_none : (ps : Plans) → NoEntry (forest_p ps)
unfolding forest_p
plans_none pnil = tt
plans_none (pcons p ps) = (plan_none p, plans_none ps)

-- where there is no entry, no column is replaced
no_map : (m : Tree) → NoEntry m.below → Gives m col
no_map m h x = rw (lookup_none m.below (qualifier x) (ident x) h)

-- what the entries of a plan give
pub plan_map : (p : Plan) → Gives (plan_tree p) (map_of p)
unfolding kids_p
plan_map (project es p) = λ x. entries_map es _ x (plan_none p, tt)
plan_map (aggregate gs ags p) = λ x. entries_map gs _ x (parts_none agg_label agg_kids ags _ (λ a. refl) (plan_none p, tt))
plan_map (scan t fs es) =
    no_map (plan_tree (scan t fs es)) (parts_none field_label nothing_below fs _ (λ f. refl) (parts_none label_e kids_e es none expr_none tt))
plan_map (filter e p) = no_map (plan_tree (filter e p)) (expr_none e, (plan_none p, tt))
plan_map (join k l r on f) =
    no_map (plan_tree (join k l r on f)) (plan_none l, (plan_none r, parts_none pair_label pair_kids on _ (λ k. refl) (filter_none f)))
plan_map (alias q p) = no_map (plan_tree (alias q p)) (plan_none p, tt)
plan_map (union ps) = no_map (plan_tree (union ps)) (plans_none ps)
plan_map (distinct p) = no_map (plan_tree (distinct p)) (plan_none p, tt)
plan_map (sort f ks p) = no_map (plan_tree (sort f ks p)) (parts_none key_label key_kids ks _ (λ k. refl) (plan_none p, tt))
plan_map (repartition p) = no_map (plan_tree (repartition p)) (plan_none p, tt)
plan_map (limit n k p) = no_map (plan_tree (limit n k p)) (plan_none p, tt)
plan_map (window ws p) = no_map (plan_tree (window ws p)) (parts_none win_label win_kids ws _ (λ w. refl) (plan_none p, tt))

-- ---- trees as the code has them

-- an expression that stands at a record, as the tree there
pub stood_expr : {s : List ℕ} {n : ℕ} {e : Expr} → Standing s n e → Stood s n
stood_expr {e = e} h = record { tree = expr_tree e; at = h.here }

pub expr_is : (x : Subtree) {e : Expr} → Standing x.image.now x.number e → tree_of x ≡ expr_tree e
expr_is x {e} h = tree_is x (expr_tree e) refl refl h.here

pub plan_is : (x : Subtree) {p : Plan} → StandingP x.image.now x.number p → tree_of x ≡ plan_tree p
plan_is x {p} h = tree_is x (plan_tree p) refl refl h.here

-- they are no deeper than an image may be
pub expr_deep : (x : Subtree) {e : Expr} → Standing x.image.now x.number e → Deep (tree_of x).below max_below
expr_deep x h = rw (expr_is x h) h.deep

pub plan_deep : (x : Subtree) {p : Plan} → StandingP x.image.now x.number p → Deep (tree_of x).below max_below
plan_deep x h = rw (plan_is x h) h.deep

pub found_deep : {s : List ℕ} {n : ℕ} {x : Subtree} {e : Expr} → Found s n x e → Deep (tree_of x).below max_below
found_deep f = rw (tree_found f) f.standing.deep

-- such trees may be written
pub deep_low : (level : ℕ) {f : Forest} → Shallow 1 level → Deep f max_below → Low (level + 1) f
deep_low level h d = record { depth = max_below; deep = d; low = omega (arith, h) }

-- a tree over entries is a map
pub maps_to : {M : ℕ} (map : Stretch M) {t : Tree} {σ : Name → Expr} → tree_of map ≡ t → Gives t σ → MapsTo map σ
maps_to {M} map {t} {σ} e g = record { is = subst (λ (u : Tree). (x : Expr) → replaced u (expr_tree x) ≡ expr_tree (replace_cols σ x)) (sym e) (replaced_expr t σ g) }

-- a plan is
pub plan_maps_to : {map : Subtree} {p : Plan} → StandingP map.image.now map.number p → MapsTo map (map_of p)
plan_maps_to {map} {p} h = maps_to map (plan_is map h) (plan_map p)

-- ---- how deep a writer may begin over a map

-- it is no deeper than a plan
pub plan_over : {k level : ℕ} {map : Subtree} {p : Plan} → StandingP map.image.now map.number p → Shallow (suc k) level → Over k level map
plan_over {map = map} h l = record { room = max_depth; some = omega arith; deep = plan_deep map h; shallow = omega (arith, l) }

-- it is no deeper than bytes can be read
pub read_over : {k level room : ℕ} (map : Subtree) {m : List ℕ} → map.image.now ≡ m → map.number ≡ 0 → Readable room m 0 → Shallow k (level + room)
    → Over k level map
read_over {room = room} map {m} e n h l =
    let t : tree_of map ≡ h.tree = tree_is map h.tree e n h.at in
    record { room = room; some = h.some; deep = rw t h.deep; shallow = l }

-- a lower writer may begin further down
pub over_at : {M k level : ℕ} {map : Stretch M} {j n : ℕ} → Over k level map → n + j * max_depth ≤ level + k * max_depth → Over j n map
over_at h le = record { room = h.room; some = h.some; deep = h.deep; shallow = omega (arith, h.shallow, le) }

-- an expression may be written over a map
pub over_low : {M level : ℕ} {map : Stretch M} {f : Forest} → Over 1 level map → Deep f max_below → LowOver (level + 1) (tree_of map).below f
over_low h d =
    record { depth = max_below; deep = d; room = h.room - 1; entries_deep = h.deep; low = omega (arith, h.shallow, h.some) }
