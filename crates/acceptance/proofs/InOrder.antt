-- The marks stand in the order of the image: made of the labels of a plan's records, they are its tree's labels in reading order.
use mathlib.Core.Path.{◌≡◌, refl}
use mathlib.Core.List.{List, [], ◌∷◌, ◌++◌, map, append_assoc, append-nil}
use mathlib.Core.Option as O
use mathlib.Core.Option.{Option, some}
use Rattle.image.specs.Tree.{Label, Forest, none, node}
use Rattle.image.specs.Lowest.{alone}
use Rattle.plan.specs.Lists.{flatten}
use Rattle.plan.specs.Syntax.{Expr, col, num, bool, nul, bin, neg, test, between, inlist, fn, Exprs, enil, econs, Pair, WinEntry, Plan}
use Rattle.plan.specs.Syntax.{scan, filter, project, join, alias, union, distinct, sort, repartition, limit, aggregate, window, Plans, pnil}
use Rattle.plan.specs.Syntax.{pcons}
use Rattle.plan.specs.Trees.{label_e, kids_e, forest_e, in_front, each, nothing_below, field_label, entry_label, entry_kids, pair_label, pair_kids}
use Rattle.plan.specs.Trees.{key_label, key_kids, agg_label, agg_kids, win_label, win_kids, filter_kids, label_p, kids_p, forest_p, plan_tree}
use Rattle.acceptance.specs.Marks.{marks_in, marks_in_all, marks_in?, Rules, entry_marks, pair_marks, key_marks, agg_marks, win_marks}
use Rattle.acceptance.specs.Marks.{marks_of, marks_of_all}

-- the labels of a forest, in reading order
abbrev pub labels : Forest → List Label
labels none = []
labels (node l cs ns) = l ∷ (labels cs ++ labels ns)

abbrev pub label_rules : Rules Label
label_rules = record {
  plan = label_p;
  over = λ p e. label_e e;
  both = λ l r e. label_e e;
  field = field_label;
  entry = entry_label;
  pair = λ l r k. pair_label k;
  key = key_label;
  agg = λ p a. agg_label a;
  win = λ p w. win_label w;
}

mutual
  unfolding marks_in kids_e

  expr_labels : (e : Expr) → marks_in label_e e ≡ label_e e ∷ labels (kids_e e)
  expr_labels (col x) = refl
  expr_labels (num z) = refl
  expr_labels (bool b) = refl
  expr_labels (nul t) = refl
  expr_labels (bin o a b) = simp (expr_labels a, expr_labels b, append-nil)
  expr_labels (neg a) = simp (expr_labels a, append-nil)
  expr_labels (test t a) = simp (expr_labels a, append-nil)
  expr_labels (between n a l u) = simp (expr_labels a, expr_labels l, expr_labels u, append_assoc, append-nil)
  expr_labels (inlist n a xs) = simp (expr_labels a, exprs_labels xs)
  expr_labels (fn p q r xs) = simp (exprs_labels xs)

  exprs_labels : (xs : Exprs) → marks_in_all label_e xs ≡ labels (forest_e xs)
  exprs_labels enil = refl
  exprs_labels (econs x xs) = simp (expr_labels x, exprs_labels xs)

expr?_labels : (f : Option Expr) → marks_in? label_e f ≡ labels (filter_kids f)
expr?_labels O.none = refl
expr?_labels (some e) = simp (expr_labels e, append-nil)

-- a run of parts, in front of other trees
run_labels : {A : Type 0} (f : A → List Label) (l : A → Label) (k : A → Forest) → ((x : A) → f x ≡ l x ∷ labels (k x))
    → (xs : List A) (ns : Forest) → labels (each l k xs ns) ≡ flatten f xs ++ labels ns
unfolding each flatten
run_labels f l k h [] ns = refl
run_labels f l k h (x ∷ xs) ns = simp (h x, run_labels f l k h xs ns, append_assoc)

leaf_labels : {A : Type 0} (l : A → Label) (xs : List A) (ns : Forest) → labels (each l nothing_below xs ns) ≡ map l xs ++ labels ns
unfolding each
leaf_labels l [] ns = refl
leaf_labels l (x ∷ xs) ns = simp (leaf_labels l xs ns)

one_label : (l : Label) (e : Expr) → l ∷ marks_in label_e e ≡ l ∷ labels (in_front e none)
one_label l e = simp (expr_labels e, append-nil)

pair_labels : (l r : Plan) (k : Pair) → pair_marks label_rules l r k ≡ pair_label k ∷ labels (pair_kids k)
pair_labels l r k = rw (expr_labels k.lhs, expr_labels k.rhs) (simp append-nil)

win_labels : (p : Plan) (w : WinEntry) → win_marks label_rules p w ≡ win_label w ∷ labels (win_kids w)
unfolding label_e
win_labels p w = simp (expr_labels, leaf_labels, append-nil)

mutual
  unfolding marks_of kids_p

  plan_labels : (p : Plan) → marks_of label_rules p ≡ label_p p ∷ labels (kids_p p)
  plan_labels (scan t fs es) = simp (leaf_labels, run_labels (marks_in label_e) label_e kids_e expr_labels, append-nil)
  plan_labels (filter e p) = rw (expr_labels e, plan_labels p) (simp append-nil)
  plan_labels (project es p) =
      let run = run_labels (entry_marks label_rules p) entry_label entry_kids (λ e. one_label (entry_label e) e.expr) in
      simp (run, plan_labels p, append-nil)
  plan_labels (join k l r on f) =
      let run = run_labels (pair_marks label_rules l r) pair_label pair_kids (pair_labels l r) in
      rw (expr?_labels f) (simp (run, plan_labels l, plan_labels r, append_assoc))
  plan_labels (alias q p) = simp (plan_labels p, append-nil)
  plan_labels (union ps) = simp (plans_labels ps)
  plan_labels (distinct p) = simp (plan_labels p, append-nil)
  plan_labels (sort f ks p) =
      let run = run_labels (key_marks label_rules p) key_label key_kids (λ k. one_label (key_label k) k.expr) in
      simp (run, plan_labels p, append-nil)
  plan_labels (repartition p) = simp (plan_labels p, append-nil)
  plan_labels (limit n k p) = simp (plan_labels p, append-nil)
  plan_labels (aggregate gs ags p) =
      let groups = run_labels (entry_marks label_rules p) entry_label entry_kids (λ e. one_label (entry_label e) e.expr) in
      let run = run_labels (agg_marks label_rules p) agg_label agg_kids (λ a. one_label (agg_label a) a.expr) in
      simp (groups, run, plan_labels p, append_assoc, append-nil)
  plan_labels (window ws p) =
      let run = run_labels (win_marks label_rules p) win_label win_kids (win_labels p) in
      simp (run, plan_labels p, append-nil)

  plans_labels : (ps : Plans) → marks_of_all label_rules ps ≡ labels (forest_p ps)
  plans_labels pnil = refl
  plans_labels (pcons p ps) = simp (plan_labels p, plans_labels ps)

pub in_order : (p : Plan) → marks_of label_rules p ≡ labels (alone (plan_tree p))
in_order p = simp (plan_labels p, append-nil)
