-- The measures, kind by kind.
use Prim.Native.Nat.{ℕ, suc, ◌+◌, ◌≤◌}
use native.Mathlib.Omega.{arith}
use mathlib.Core.Path.{◌≡◌, refl}
use mathlib.Core.List.{List, [], ◌∷◌}
use mathlib.Core.Option.{Option}
use Rattle.image.specs.Tree.{Label, Forest, node, none, size}
use Rattle.plan.specs.Syntax.{Expr}
use Rattle.plan.specs.Syntax.{Entry, Pair, Key, AggEntry, WinEntry, Kind, Plans, pnil, pcons, Plan, filter, project, join}
use Rattle.plan.specs.Syntax.{alias, union, distinct, sort, repartition, limit, aggregate, window}
use Rattle.plan.specs.Trees.{each, entry_label, entry_kids, pair_label, pair_kids}
use Rattle.plan.specs.Trees.{key_label, key_kids, agg_label, agg_kids, win_label, win_kids, filter_kids, label_p, kids_p, forest_p}
use Rattle.plan.specs.Measure.{depth, size_e, size_p, sizes, depth_p}

-- ---- a run of parts in front of other trees

module _ {A : Type 0} (l : A → Label) (k : A → Forest) where
  pub size_each : (xs : List A) (ns : Forest) → size (each l k xs ns) ≡ sizes k xs + size ns
  unfolding each sizes
  size_each [] ns = omega arith
  size_each (x ∷ xs) ns = omega (arith, size_each xs ns)

  pub depth_each : (xs : List A) (ns : Forest) → depth ns ≤ depth (each l k xs ns)
  unfolding each depth
  depth_each [] ns = omega arith
  depth_each (x ∷ xs) ns = omega (arith, depth_each xs ns)

-- ---- expressions

-- ---- plans: the inputs of a Union by `size_ps`

abbrev pub size_ps : Plans → ℕ
size_ps ps = size (forest_p ps)

pub size_filter : (e : Expr) (p : Plan) → size_p (filter e p) ≡ suc (size_e e + size_p p)
unfolding size_p size_e kids_p
size_filter e p = omega arith

pub size_project : (es : List Entry) (p : Plan) → size_p (project es p) ≡ suc (sizes entry_kids es + size_p p)
unfolding size_p kids_p
size_project es p = omega (arith, size_each entry_label entry_kids es (node (label_p p) (kids_p p) none))

pub size_join : (k : Kind) (l r : Plan) (on : List Pair) (f : Option Expr)
    → size_p (join k l r on f) ≡ suc (size_p l + (size_p r + (sizes pair_kids on + size (filter_kids f))))
unfolding size_p kids_p
size_join k l r on f = omega (arith, size_each pair_label pair_kids on (filter_kids f))

pub size_alias : (q : ℕ) (p : Plan) → size_p (alias q p) ≡ suc (size_p p)
unfolding size_p kids_p
size_alias q p = omega arith

pub size_union : (ps : Plans) → size_p (union ps) ≡ suc (size_ps ps)
unfolding size_p kids_p
size_union ps = refl

pub size_distinct : (p : Plan) → size_p (distinct p) ≡ suc (size_p p)
unfolding size_p kids_p
size_distinct p = omega arith

pub size_sort : (f : Option ℕ) (ks : List Key) (p : Plan) → size_p (sort f ks p) ≡ suc (sizes key_kids ks + size_p p)
unfolding size_p kids_p
size_sort f ks p = omega (arith, size_each key_label key_kids ks (node (label_p p) (kids_p p) none))

pub size_repartition : (p : Plan) → size_p (repartition p) ≡ suc (size_p p)
unfolding size_p kids_p
size_repartition p = omega arith

pub size_limit : (n k : ℕ) (p : Plan) → size_p (limit n k p) ≡ suc (size_p p)
unfolding size_p kids_p
size_limit n k p = omega arith

pub size_aggregate : (gs : List Entry) (ags : List AggEntry) (p : Plan)
    → size_p (aggregate gs ags p) ≡ suc (sizes entry_kids gs + (sizes agg_kids ags + size_p p))
unfolding size_p kids_p
size_aggregate gs ags p =
    omega (
      arith,
      size_each entry_label entry_kids gs (each agg_label agg_kids ags (node (label_p p) (kids_p p) none)),
      size_each agg_label agg_kids ags (node (label_p p) (kids_p p) none),
    )

pub size_window : (ws : List WinEntry) (p : Plan) → size_p (window ws p) ≡ suc (sizes win_kids ws + size_p p)
unfolding size_p kids_p
size_window ws p = omega (arith, size_each win_label win_kids ws (node (label_p p) (kids_p p) none))

pub size_pnil : size_ps pnil ≡ 0
unfolding kids_p
size_pnil = refl

pub size_pcons : (p : Plan) (ps : Plans) → size_ps (pcons p ps) ≡ size_p p + size_ps ps
unfolding size_p kids_p
size_pcons p ps = omega arith

pub one_record : (p : Plan) → suc 0 ≤ size_p p
unfolding size_p
one_record p = omega arith

-- ---- depth: an input is one less deep

abbrev pub depth_ps : Plans → ℕ
depth_ps ps = depth (forest_p ps)

pub one_level : (p : Plan) → suc 0 ≤ depth_p p
unfolding depth_p
one_level p = omega arith

pub deep_filter : (e : Expr) (p : Plan) → 1 + depth_p p ≤ depth_p (filter e p)
unfolding depth_p kids_p depth
deep_filter e p = omega arith

pub deep_project : (es : List Entry) (p : Plan) → 1 + depth_p p ≤ depth_p (project es p)
unfolding depth_p kids_p depth
deep_project es p = omega (arith, depth_each entry_label entry_kids es (node (label_p p) (kids_p p) none))

pub deep_left : (k : Kind) (l r : Plan) (on : List Pair) (f : Option Expr) → 1 + depth_p l ≤ depth_p (join k l r on f)
unfolding depth_p kids_p depth
deep_left k l r on f = omega arith

pub deep_right : (k : Kind) (l r : Plan) (on : List Pair) (f : Option Expr) → 1 + depth_p r ≤ depth_p (join k l r on f)
unfolding depth_p kids_p depth
deep_right k l r on f = omega arith

pub deep_alias : (q : ℕ) (p : Plan) → 1 + depth_p p ≤ depth_p (alias q p)
unfolding depth_p kids_p depth
deep_alias q p = omega arith

pub deep_union : (ps : Plans) → 1 + depth_ps ps ≤ depth_p (union ps)
unfolding depth_p kids_p
deep_union ps = omega arith

pub deep_distinct : (p : Plan) → 1 + depth_p p ≤ depth_p (distinct p)
unfolding depth_p kids_p depth
deep_distinct p = omega arith

pub deep_sort : (f : Option ℕ) (ks : List Key) (p : Plan) → 1 + depth_p p ≤ depth_p (sort f ks p)
unfolding depth_p kids_p depth
deep_sort f ks p = omega (arith, depth_each key_label key_kids ks (node (label_p p) (kids_p p) none))

pub deep_repartition : (p : Plan) → 1 + depth_p p ≤ depth_p (repartition p)
unfolding depth_p kids_p depth
deep_repartition p = omega arith

pub deep_limit : (n k : ℕ) (p : Plan) → 1 + depth_p p ≤ depth_p (limit n k p)
unfolding depth_p kids_p depth
deep_limit n k p = omega arith

pub deep_aggregate : (gs : List Entry) (ags : List AggEntry) (p : Plan) → 1 + depth_p p ≤ depth_p (aggregate gs ags p)
unfolding depth_p kids_p depth
deep_aggregate gs ags p =
    omega (
      arith,
      depth_each entry_label entry_kids gs (each agg_label agg_kids ags (node (label_p p) (kids_p p) none)),
      depth_each agg_label agg_kids ags (node (label_p p) (kids_p p) none),
    )

pub deep_window : (ws : List WinEntry) (p : Plan) → 1 + depth_p p ≤ depth_p (window ws p)
unfolding depth_p kids_p depth
deep_window ws p = omega (arith, depth_each win_label win_kids ws (node (label_p p) (kids_p p) none))

pub deep_first : (p : Plan) (ps : Plans) → depth_p p ≤ depth_ps (pcons p ps)
unfolding depth_p kids_p depth
deep_first p ps = omega arith

pub deep_later : (p : Plan) (ps : Plans) → depth_ps ps ≤ depth_ps (pcons p ps)
unfolding depth_p kids_p depth
deep_later p ps = omega arith
