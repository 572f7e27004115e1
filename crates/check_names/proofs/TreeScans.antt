-- The first scan of a table in a plan's tree is the first of the plan's scans.
-- Assumes nothing.
use Prim.Native.Nat.{ℕ}
use native.Mathlib.Omega.{arith}
use mathlib.Core.Path.{◌≡◌, refl, sym, ap, ◌∙◌}
use mathlib.Core.Bool.{false, cond}
use mathlib.Core.List.{List, [], ◌∷◌, ◌++◌}
use mathlib.Core.Option as O
use mathlib.Core.Option.{Option, some}
use lib.Dec.{eqb}
use Rattle.image.specs.Tree.{Label, Forest, none, node}
use Rattle.image.specs.Lowest.{alone}
use Rattle.plan.specs.Kinds as K
use Rattle.plan.specs.Kinds.{plan, is_kind}
use Rattle.plan.specs.Lists.{◌&◌}
use Rattle.plan.specs.Syntax.{Name, Expr, col, num, bool, nul, bin, neg, test, between, inlist, fn, Exprs, enil, econs, Field, Entry, Pair}
use Rattle.plan.specs.Syntax.{WinEntry, Plan, scan, filter, project, join, alias, union, distinct, sort, repartition, limit, aggregate}
use Rattle.plan.specs.Syntax.{window, Plans, pnil, pcons}
use Rattle.plan.specs.Trees.{column_label, label_e, kids_e, forest_e, in_front, each, nothing_below, field_label, entry_label, entry_kids, pair_label}
use Rattle.plan.specs.Trees.{pair_kids, key_label, key_kids, agg_label, agg_kids, win_label, win_kids, filter_kids, label_p, kids_p, forest_p}
use Rattle.plan.specs.Trees.{plan_tree}
use Rattle.plan.specs.Types.{Scanned, scans, scans_all}
use Rattle.plan.proofs.Written.{no_part_e}
use Rattle.acceptance.specs.Types.{first_scanned}
use Rattle.check_fields.specs.Rules.{scan_types}
use Rattle.check_names.proofs.TreeFields.{stand, scan_types_lem}

module _ (t : ℕ) where
  -- ---- the plan's scans: `first_scanned`, and d where there is none

  unfoldable scanned_or : List ℕ → List Scanned → List ℕ
  scanned_or d [] = d
  scanned_or d (a ∷ ss) = cond (eqb a.table t) a.row_types (scanned_or d ss)

  or_nothing : (ss : List Scanned) → scanned_or [] ss ≡ first_scanned t ss
  unfolding scanned_or first_scanned
  or_nothing [] = refl
  or_nothing (a ∷ ss) = rw (or_nothing ss)

  or_append : (d : List ℕ) (xs ys : List Scanned) → scanned_or d (xs ++ ys) ≡ scanned_or (scanned_or d ys) xs
  unfolding scanned_or
  or_append d [] ys = refl
  or_append d (x ∷ xs) ys = rw (or_append d xs ys)

  -- ---- expressions and parts hold no scans

  -- the forest holds none
  abbrev Scanless : Forest → Type 0
  Scanless f = (d : List ℕ) → scan_types t d f ≡ d

  -- a tree without scans in front of other trees
  past_tree : (l : Label) (cs ns : Forest) → is_kind (plan K.TableScan) l ≡ false → Scanless cs
      → (d : List ℕ) → scan_types t d (node l cs ns) ≡ scan_types t d ns
  unfolding scan_types ◌&◌
  past_tree l cs ns h k d = rw h (k (scan_types t d ns))

  past_run : {A : Type 0} (l : A → Label) (k : A → Forest) → ((x : A) → is_kind (plan K.TableScan) (l x) ≡ false) → ((x : A) → Scanless (k x))
      → (xs : List A) (ns : Forest) (d : List ℕ) → scan_types t d (each l k xs ns) ≡ scan_types t d ns
  unfolding each
  past_run l k h i [] ns d = refl
  past_run l k h i (x ∷ xs) ns d = past_tree (l x) (k x) (each l k xs ns) (h x) (i x) d ∙ past_run l k h i xs ns d

  none_scanned : Scanless none
  unfolding scan_types
  none_scanned d = refl

  no_scan : (e : Expr) → is_kind (plan K.TableScan) (label_e e) ≡ false
  no_scan e = no_part_e e (K.number_p K.TableScan) (omega arith)

  ahead : (e : Expr) (ns : Forest) → Scanless (kids_e e) → Scanless ns → Scanless (in_front e ns)
  ahead e ns h k d = past_tree (label_e e) (kids_e e) ns (no_scan e) h d ∙ k d

  mutual
    unfolding kids_e

    below_expr : (e : Expr) → Scanless (kids_e e)
    below_expr (col x) = none_scanned
    below_expr (num z) = none_scanned
    below_expr (bool b) = none_scanned
    below_expr (nul n) = none_scanned
    below_expr (bin o a b) = ahead a (in_front b none) (below_expr a) (ahead b none (below_expr b) none_scanned)
    below_expr (neg a) = ahead a none (below_expr a) none_scanned
    below_expr (test o a) = ahead a none (below_expr a) none_scanned
    below_expr (between n a l u) =
        ahead a (in_front l (in_front u none)) (below_expr a) (ahead l (in_front u none) (below_expr l) (ahead u none (below_expr u) none_scanned))
    below_expr (inlist n a xs) = ahead a (forest_e xs) (below_expr a) (in_exprs xs)
    below_expr (fn p q r xs) = in_exprs xs

    in_exprs : (xs : Exprs) → Scanless (forest_e xs)
    in_exprs enil = none_scanned
    in_exprs (econs x xs) = ahead x (forest_e xs) (below_expr x) (in_exprs xs)

  in_front_lem : (e : Expr) (ns : Forest) → Scanless ns → Scanless (in_front e ns)
  in_front_lem e ns = ahead e ns (below_expr e)

  one_expr : (e : Expr) → Scanless (in_front e none)
  one_expr e = in_front_lem e none none_scanned

  columns_scanless : (xs : List Name) → Scanless (each column_label nothing_below xs none)
  columns_scanless xs d = past_run column_label nothing_below (λ x. refl) (λ x. none_scanned) xs none d ∙ none_scanned d

  win_scanless : (w : WinEntry) → Scanless (win_kids w)
  win_scanless w = in_front_lem w.expr (each column_label nothing_below w.parts none) (columns_scanless w.parts)

  filter_scanless : (f : Option Expr) → Scanless (filter_kids f)
  filter_scanless O.none = none_scanned
  filter_scanless (some e) = one_expr e

  keys_scanless : (on : List Pair) (f : Option Expr) → Scanless (each pair_label pair_kids on (filter_kids f))
  keys_scanless on f d =
      past_run pair_label pair_kids (λ x. refl) (λ x. in_front_lem x.lhs (in_front x.rhs none) (one_expr x.rhs)) on (filter_kids f) d
      ∙ filter_scanless f d

  scan_scanless : (fs : List Field) (es : List Expr) → Scanless (each field_label nothing_below fs (each label_e kids_e es none))
  scan_scanless fs es d =
      past_run field_label nothing_below (λ x. refl) (λ x. none_scanned) fs (each label_e kids_e es none) d
      ∙ past_run label_e kids_e no_scan below_expr es none d
      ∙ none_scanned d

  -- ---- plans

  past_entries : (es : List Entry) (ns : Forest) (d : List ℕ) → scan_types t d (each entry_label entry_kids es ns) ≡ scan_types t d ns
  past_entries = past_run entry_label entry_kids (λ x. refl) (λ x. one_expr x.expr)

  mutual
    unfolding scan_types label_p kids_p scans scanned_or ◌&◌

    plan_scans : (p : Plan) (d : List ℕ) (ns : Forest) → scan_types t d (stand p ns) ≡ scanned_or (scan_types t d ns) (scans p)
    plan_scans (scan n fs es) d ns = rw (scan_types_lem fs es, scan_scanless fs es (scan_types t d ns))
    plan_scans (filter e p) d ns =
        past_tree (label_e e) (kids_e e) (stand p none) (no_scan e) (below_expr e) (scan_types t d ns) ∙ plan_scans p (scan_types t d ns) none
    plan_scans (project es p) d ns = past_entries es (stand p none) (scan_types t d ns) ∙ plan_scans p (scan_types t d ns) none
    plan_scans (join k l r on f) d ns =
        let o = scan_types t d ns in
        let rest = each pair_label pair_kids on (filter_kids f) in
        plan_scans l o (stand r rest)
        ∙ ap (λ x. scanned_or x (scans l)) (plan_scans r o rest ∙ ap (λ x. scanned_or x (scans r)) (keys_scanless on f o))
        ∙ sym (or_append o (scans l) (scans r))
    plan_scans (alias q p) d ns = plan_scans p (scan_types t d ns) none
    plan_scans (union ps) d ns = plans_scans ps (scan_types t d ns)
    plan_scans (distinct p) d ns = plan_scans p (scan_types t d ns) none
    plan_scans (sort f ks p) d ns =
        past_run key_label key_kids (λ x. refl) (λ x. one_expr x.expr) ks (stand p none) (scan_types t d ns) ∙ plan_scans p (scan_types t d ns) none
    plan_scans (repartition p) d ns = plan_scans p (scan_types t d ns) none
    plan_scans (limit n k p) d ns = plan_scans p (scan_types t d ns) none
    plan_scans (aggregate gs ags p) d ns =
        past_entries gs (each agg_label agg_kids ags (stand p none)) (scan_types t d ns)
        ∙ past_run agg_label agg_kids (λ x. refl) (λ x. one_expr x.expr) ags (stand p none) (scan_types t d ns)
        ∙ plan_scans p (scan_types t d ns) none
    plan_scans (window ws p) d ns =
        past_run win_label win_kids (λ x. refl) win_scanless ws (stand p none) (scan_types t d ns) ∙ plan_scans p (scan_types t d ns) none

    plans_scans : (ps : Plans) (d : List ℕ) → scan_types t d (forest_p ps) ≡ scanned_or d (scans_all ps)
    plans_scans pnil d = refl
    plans_scans (pcons p ps) d =
        plan_scans p d (forest_p ps) ∙ ap (λ x. scanned_or x (scans p)) (plans_scans ps d) ∙ sym (or_append d (scans p) (scans_all ps))

  -- the first scan of a table in the tree is the plan's first
  pub tree_scans : (p : Plan) → scan_types t [] (alone (plan_tree p)) ≡ first_scanned t (scans p)
  unfolding scan_types
  tree_scans p = plan_scans p [] none ∙ or_nothing (scans p)
