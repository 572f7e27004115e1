-- A rule of records that agrees with rules of plans, record by record, marks the records of a plan's tree as they mark the plan.
-- Assumes nothing.
use mathlib.Core.Path.{◌≡◌, refl, sym, ap, ap₂, ◌∙◌}
use mathlib.Core.Bool.{Bool}
use mathlib.Core.List.{List, [], ◌∷◌, ◌++◌, map, append-nil, append_assoc}
use mathlib.Core.Option as O
use mathlib.Core.Option.{Option, some}
use Rattle.image.specs.Tree.{Label, Forest, none, node}
use Rattle.image.specs.Lowest.{lowest, first_false, alone}
use Rattle.image.proofs.Lowest.{marks, lowest_is}
use Rattle.plan.specs.Kinds.{what_of, among}
use Rattle.plan.specs.Lists.{flatten}
use Rattle.plan.specs.Syntax.{Name, Expr, col, num, bool, nul, bin, neg, test, between, inlist, fn, Exprs, enil, econs, Field, Entry, Pair}
use Rattle.plan.specs.Syntax.{Key, AggEntry, WinEntry, Plan, scan, filter, project, join, alias, union, distinct, sort, repartition, limit}
use Rattle.plan.specs.Syntax.{aggregate, window, Plans, pnil, pcons}
use Rattle.plan.specs.Trees.{column_label, label_e, kids_e, forest_e, in_front, each, nothing_below, field_label, entry_label, entry_kids, pair_label}
use Rattle.plan.specs.Trees.{pair_kids, key_label, key_kids, agg_label, agg_kids, win_label, win_kids, filter_kids, label_p, kids_p, forest_p}
use Rattle.plan.specs.Trees.{plan_tree}
use Rattle.plan.proofs.Written.{expr_what}
use Rattle.acceptance.specs.Marks.{marks_in, marks_in_all, marks_in?, Rules, entry_marks, pair_marks, key_marks, agg_marks, win_marks}
use Rattle.acceptance.specs.Marks.{marks_of, marks_of_all}
use Rattle.check_fields.specs.Fields.{input}
use Rattle.check_fields.specs.Rules.{Scope, over, hand}
use Rattle.check_names.proofs.TreeFields.{stand, fields, inputs_expr, inputs_entries, inputs_keys, inputs_aggs, inputs_wins, inputs_plan}
use Rattle.check_names.proofs.TreeFields.{made_fields}

-- ---- what is handed down

-- over one plan, and over both inputs of a join
abbrev pub over_one : Plan → Scope
over_one p = over (fields p) []

abbrev pub over_both : Plan → Plan → Scope
over_both l r = over (fields l) (fields r)

-- what a plan hands to its children
abbrev pub below : Plan → Scope
below (scan t fs es) = over_one (scan t fs es)
below (filter e p) = over_one p
below (project es p) = over_one p
below (join k l r on f) = over_both l r
below (alias q p) = over_one p
below (union ps) = over [] []
below (distinct p) = over_one p
below (sort f ks p) = over_one p
below (repartition p) = over_one p
below (limit n k p) = over_one p
below (aggregate gs ags p) = over_one p
below (window ws p) = over_one p

pub hand_plan : (c : Scope) (p : Plan) → hand c (label_p p) (kids_p p) ≡ (below p, below p)
unfolding hand label_p kids_p what_of among fields input
hand_plan c (scan t fs es) = rw (made_fields fs es)
hand_plan c (filter e p) = rw (inputs_expr e (stand p none), inputs_plan p none)
hand_plan c (project es p) = rw (inputs_entries es (stand p none), inputs_plan p none)
hand_plan c (join k l r on f) =
    let rest = each pair_label pair_kids on (filter_kids f) in
    rw (inputs_plan l (stand r rest), inputs_plan r rest)
hand_plan c (alias q p) = rw (inputs_plan p none)
hand_plan c (union ps) = refl
hand_plan c (distinct p) = rw (inputs_plan p none)
hand_plan c (sort f ks p) = rw (inputs_keys ks (stand p none), inputs_plan p none)
hand_plan c (repartition p) = rw (inputs_plan p none)
hand_plan c (limit n k p) = rw (inputs_plan p none)
hand_plan c (aggregate gs ags p) =
    let rest = each agg_label agg_kids ags (stand p none) in
    rw (inputs_entries gs rest, inputs_aggs ags (stand p none), inputs_plan p none)
hand_plan c (window ws p) = rw (inputs_wins ws (stand p none), inputs_plan p none)

hand_expr : (c : Scope) (e : Expr) → hand c (label_e e) (kids_e e) ≡ (c, c)
unfolding hand
hand_expr c e = rw (expr_what e).1

-- ---- a rule of records, and rules of plans

-- the rule says of each record of a plan's tree what the rules say of what the record stands for
pub record Agrees (rule : Scope → Label → Forest → Bool) (R : Rules Bool) : Type 0 where
  pub plan : (c : Scope) (p : Plan) → rule c (label_p p) (kids_p p) ≡ R.plan p
  pub one : (p : Plan) (e : Expr) → rule (over_one p) (label_e e) (kids_e e) ≡ R.over p e
  pub both : (l r : Plan) (e : Expr) → rule (over_both l r) (label_e e) (kids_e e) ≡ R.both l r e
  pub field : (c : Scope) (f : Field) → rule c (field_label f) none ≡ R.field f
  pub entry : (c : Scope) (e : Entry) → rule c (entry_label e) (entry_kids e) ≡ R.entry e
  pub pair : (l r : Plan) (k : Pair) → rule (over_both l r) (pair_label k) (pair_kids k) ≡ R.pair l r k
  pub key : (c : Scope) (k : Key) → rule c (key_label k) (key_kids k) ≡ R.key k
  pub agg : (p : Plan) (a : AggEntry) → rule (over_one p) (agg_label a) (agg_kids a) ≡ R.agg p a
  pub win : (p : Plan) (w : WinEntry) → rule (over_one p) (win_label w) (win_kids w) ≡ R.win p w

module _ (rule : Scope → Label → Forest → Bool) where
  -- the marks of a forest of which all trees stand over c
  abbrev beside : Scope → Forest → List Bool
  beside c f = marks rule hand c c f

  -- ---- expressions

  module _ (c : Scope) (g : Expr → Bool) (h : (e : Expr) → rule c (label_e e) (kids_e e) ≡ g e) where
    -- an expression's own mark, the marks below it, and those of other trees
    own_marks : (after : Scope) (e : Expr) (ns : Forest) → marks rule hand c after (in_front e ns) ≡ g e ∷ (beside c (kids_e e) ++ beside after ns)
    own_marks after e ns = rw (h e, hand_expr c e)

    mutual
      unfolding marks_in kids_e

      below_marks : (e : Expr) → g e ∷ beside c (kids_e e) ≡ marks_in g e
      below_marks (col x) = refl
      below_marks (num z) = refl
      below_marks (bool b) = refl
      below_marks (nul t) = refl
      below_marks (bin o a b) = rw (own_marks c a (in_front b none), own_marks c b none, append-nil, ← below_marks a, ← below_marks b)
      below_marks (neg a) = rw (own_marks c a none, append-nil, ← below_marks a)
      below_marks (test t a) = rw (own_marks c a none, append-nil, ← below_marks a)
      below_marks (between n a l u) =
          rw (
            own_marks c a (in_front l (in_front u none)),
            own_marks c l (in_front u none),
            own_marks c u none,
            append-nil,
            append_assoc (marks_in g a) (marks_in g l) (marks_in g u),
            ← below_marks a,
            ← below_marks l,
            ← below_marks u,
          )
      below_marks (inlist n a xs) = rw (own_marks c a (forest_e xs), ← below_marks a, exprs_marks xs)
      below_marks (fn p q r xs) = rw (exprs_marks xs)

      exprs_marks : (xs : Exprs) → beside c (forest_e xs) ≡ marks_in_all g xs
      exprs_marks enil = refl
      exprs_marks (econs x xs) = rw (own_marks c x (forest_e xs), ← below_marks x, exprs_marks xs)

    -- an expression in front of other trees
    expr_marks : (after : Scope) (e : Expr) (ns : Forest) → marks rule hand c after (in_front e ns) ≡ marks_in g e ++ beside after ns
    expr_marks after e ns = own_marks after e ns ∙ rw (← below_marks e)

  -- ---- runs of parts, in front of other trees

  run_marks : {A : Type 0} (c : Scope) (f : A → List Bool) (l : A → Label) (k : A → Forest)
      → ((x : A) (ns : Forest) → beside c (node (l x) (k x) ns) ≡ f x ++ beside c ns)
      → (xs : List A) (ns : Forest) → beside c (each l k xs ns) ≡ flatten f xs ++ beside c ns
  unfolding each flatten
  run_marks c f l k h [] ns = refl
  run_marks c f l k h (x ∷ xs) ns =
      h x (each l k xs ns) ∙ ap (f x ++◌) (run_marks c f l k h xs ns) ∙ sym (append_assoc (f x) (flatten f xs) (beside c ns))

  leaf_marks : {A : Type 0} (c : Scope) (g : A → Bool) (l : A → Label) → ((x : A) → rule c (l x) none ≡ g x)
      → (xs : List A) (ns : Forest) → beside c (each l nothing_below xs ns) ≡ map g xs ++ beside c ns
  unfolding each
  leaf_marks c g l h [] ns = refl
  leaf_marks c g l h (x ∷ xs) ns = ap₂ ◌∷◌ (h x) (leaf_marks c g l h xs ns)

  -- a part in front of other trees: its own mark, and the marks below it
  part_marks : (c : Scope) (l : Label) (k : Forest) (m : Bool) (ms : List Bool) → rule c l k ≡ m
      → marks rule hand (hand c l k).0 (hand c l k).1 k ≡ ms → (ns : Forest) → beside c (node l k ns) ≡ (m ∷ ms) ++ beside c ns
  part_marks c l k m ms h i ns = ap₂ (λ x xs. x ∷ (xs ++ beside c ns)) h i

  module _ (R : Rules Bool) (a : Agrees rule R) where
    over_marks : (p : Plan) (after : Scope) (e : Expr) (ns : Forest)
        → marks rule hand (over_one p) after (in_front e ns) ≡ marks_in (R.over p) e ++ beside after ns
    over_marks p = expr_marks (over_one p) (R.over p) (a.one p)

    alone_marks : (p : Plan) (e : Expr) → beside (over_one p) (in_front e none) ≡ marks_in (R.over p) e
    alone_marks p e = over_marks p (over_one p) e none ∙ append-nil (marks_in (R.over p) e)

    module _ (p : Plan) where
      entries_marks : (es : List Entry) (ns : Forest)
          → beside (over_one p) (each entry_label entry_kids es ns) ≡ flatten (entry_marks R p) es ++ beside (over_one p) ns
      unfolding hand what_of among
      entries_marks =
          run_marks (over_one p) (entry_marks R p) entry_label entry_kids
          (λ e. part_marks (over_one p) (entry_label e) (entry_kids e) _ _ (a.entry (over_one p) e) (alone_marks p e.expr))

      keys_marks : (ks : List Key) (ns : Forest)
          → beside (over_one p) (each key_label key_kids ks ns) ≡ flatten (key_marks R p) ks ++ beside (over_one p) ns
      unfolding hand what_of among
      keys_marks =
          run_marks (over_one p) (key_marks R p) key_label key_kids
          (λ k. part_marks (over_one p) (key_label k) (key_kids k) _ _ (a.key (over_one p) k) (alone_marks p k.expr))

      aggs_marks : (ags : List AggEntry) (ns : Forest)
          → beside (over_one p) (each agg_label agg_kids ags ns) ≡ flatten (agg_marks R p) ags ++ beside (over_one p) ns
      unfolding hand what_of among
      aggs_marks =
          run_marks (over_one p) (agg_marks R p) agg_label agg_kids
          (λ x. part_marks (over_one p) (agg_label x) (agg_kids x) _ _ (a.agg p x) (alone_marks p x.expr))

      -- the partition columns are references
      column_marks : (xs : List Name) → beside (over_one p) (each column_label nothing_below xs none) ≡ map (λ x. R.over p (col x)) xs
      unfolding label_e kids_e
      column_marks xs = leaf_marks (over_one p) (λ x. R.over p (col x)) column_label (λ x. a.one p (col x)) xs none ∙ append-nil _

      wins_marks : (ws : List WinEntry) (ns : Forest)
          → beside (over_one p) (each win_label win_kids ws ns) ≡ flatten (win_marks R p) ws ++ beside (over_one p) ns
      unfolding hand what_of among
      wins_marks =
          run_marks (over_one p) (win_marks R p) win_label win_kids
          (λ w. part_marks (over_one p) (win_label w) (win_kids w) _ _ (a.win p w)
          (over_marks p (over_one p) w.expr (each column_label nothing_below w.parts none)
          ∙ ap (marks_in (R.over p) w.expr ++◌) (column_marks w.parts)))

    module _ (l r : Plan) where
      -- a pair's first expression stands over the left input, its second over the right
      pairs_marks : (on : List Pair) (ns : Forest)
          → beside (over_both l r) (each pair_label pair_kids on ns) ≡ flatten (pair_marks R l r) on ++ beside (over_both l r) ns
      unfolding hand what_of among
      pairs_marks =
          run_marks (over_both l r) (pair_marks R l r) pair_label pair_kids
          (λ k. part_marks (over_both l r) (pair_label k) (pair_kids k) _ _ (a.pair l r k)
          (over_marks l (over_one r) k.lhs (in_front k.rhs none) ∙ ap (marks_in (R.over l) k.lhs ++◌) (alone_marks r k.rhs)))

      filter_marks : (f : Option Expr) → beside (over_both l r) (filter_kids f) ≡ marks_in? (R.both l r) f
      filter_marks O.none = refl
      filter_marks (some e) =
          expr_marks (over_both l r) (R.both l r) (a.both l r) (over_both l r) e none ∙ append-nil (marks_in (R.both l r) e)

    -- ---- plans

    -- a plan in front of other trees, and alone: its own mark, and the marks below it
    plan_front : (c : Scope) (p : Plan) → R.plan p ∷ beside (below p) (kids_p p) ≡ marks_of R p
        → (ns : Forest) → beside c (stand p ns) ≡ marks_of R p ++ beside c ns
    plan_front c p h ns = rw (a.plan c p, hand_plan c p) (ap (◌++ beside c ns) h)

    plan_alone : (c : Scope) (p : Plan) → R.plan p ∷ beside (below p) (kids_p p) ≡ marks_of R p → beside c (stand p none) ≡ marks_of R p
    plan_alone c p h = plan_front c p h none ∙ append-nil (marks_of R p)

    mutual
      unfolding marks_of kids_p

      below_plan : (p : Plan) → R.plan p ∷ beside (below p) (kids_p p) ≡ marks_of R p
      below_plan (scan t fs es) =
          let q = scan t fs es in
          ap (R.plan q ∷◌)
          (leaf_marks (over_one q) R.field field_label (a.field (over_one q)) fs (each label_e kids_e es none)
          ∙ ap (map R.field fs ++◌)
          (run_marks (over_one q) (marks_in (R.over q)) label_e kids_e (over_marks q (over_one q)) es none ∙ append-nil _))
      below_plan (filter e p) =
          ap (R.plan (filter e p) ∷◌)
          (over_marks p (over_one p) e (stand p none)
          ∙ ap (marks_in (R.over p) e ++◌) (plan_alone (over_one p) p (below_plan p)))
      below_plan (project es p) =
          ap (R.plan (project es p) ∷◌)
          (entries_marks p es (stand p none)
          ∙ ap (flatten (entry_marks R p) es ++◌) (plan_alone (over_one p) p (below_plan p)))
      below_plan (join k l r on f) =
          let rest = each pair_label pair_kids on (filter_kids f) in
          ap (R.plan (join k l r on f) ∷◌)
          (plan_front (over_both l r) l (below_plan l) (stand r rest)
          ∙ ap (marks_of R l ++◌)
          (plan_front (over_both l r) r (below_plan r) rest
          ∙ ap (marks_of R r ++◌) (pairs_marks l r on (filter_kids f) ∙ ap (flatten (pair_marks R l r) on ++◌) (filter_marks l r f)))
          ∙ simp append_assoc)
      below_plan (alias q p) = ap (R.plan (alias q p) ∷◌) (plan_alone (over_one p) p (below_plan p))
      below_plan (union ps) = ap (R.plan (union ps) ∷◌) (below_plans ps)
      below_plan (distinct p) = ap (R.plan (distinct p) ∷◌) (plan_alone (over_one p) p (below_plan p))
      below_plan (sort f ks p) =
          ap (R.plan (sort f ks p) ∷◌)
          (keys_marks p ks (stand p none)
          ∙ ap (flatten (key_marks R p) ks ++◌) (plan_alone (over_one p) p (below_plan p)))
      below_plan (repartition p) = ap (R.plan (repartition p) ∷◌) (plan_alone (over_one p) p (below_plan p))
      below_plan (limit n k p) = ap (R.plan (limit n k p) ∷◌) (plan_alone (over_one p) p (below_plan p))
      below_plan (aggregate gs ags p) =
          ap (R.plan (aggregate gs ags p) ∷◌)
          (entries_marks p gs (each agg_label agg_kids ags (stand p none))
          ∙ ap (flatten (entry_marks R p) gs ++◌)
          (aggs_marks p ags (stand p none) ∙ ap (flatten (agg_marks R p) ags ++◌) (plan_alone (over_one p) p (below_plan p)))
          ∙ simp append_assoc)
      below_plan (window ws p) =
          ap (R.plan (window ws p) ∷◌)
          (wins_marks p ws (stand p none)
          ∙ ap (flatten (win_marks R p) ws ++◌) (plan_alone (over_one p) p (below_plan p)))

      below_plans : (ps : Plans) → beside (over [] []) (forest_p ps) ≡ marks_of_all R ps
      below_plans pnil = refl
      below_plans (pcons p ps) = plan_front (over [] []) p (below_plan p) (forest_p ps) ∙ ap (marks_of R p ++◌) (below_plans ps)

    -- the marks of the records of a plan's tree are the plan's
    pub tree_marks : (c : Scope) (p : Plan) → marks rule hand c c (alone (plan_tree p)) ≡ marks_of R p
    tree_marks c p = plan_alone c p (below_plan p)

    -- so the lowest record that breaks the rule has the number of the first false mark
    pub tree_lowest : (c : Scope) (p : Plan) → lowest rule hand c c 0 (alone (plan_tree p)) ≡ first_false 0 (marks_of R p)
    tree_lowest c p = lowest_is rule hand c c 0 (alone (plan_tree p)) ∙ ap (first_false 0) (tree_marks c p)
