-- Laws of marks: nothing is found where all are true; a plan has a mark for each record of its tree.
use Prim.Native.Nat.{ℕ, suc, ◌+◌}
use native.Mathlib.Omega.{arith}
use mathlib.Core.Path.{◌≡◌, refl, ◌∙◌}
use mathlib.Core.Bool.{Bool, true, false}
use mathlib.Core.List.{List, [], ◌∷◌, map}
use mathlib.Core.Option as O
use mathlib.Core.Option.{Option, some}
use lib.ListN.{length, length-append}
use Rattle.image.specs.Tree.{Label, Forest, none, size}
use Rattle.image.specs.Flat.{size_t}
use Rattle.std.specs.Prelude.{None}
use Rattle.image.specs.Lowest.{or_else, unless, first_false}
use Rattle.plan.specs.Lists.{◌&◌, all, flatten}
use Rattle.plan.specs.Syntax.{Name, Expr, col, num, bool, nul, bin, neg, test, between, inlist, fn, Exprs, enil, econs, Field, Pair}
use Rattle.plan.specs.Syntax.{WinEntry, Plan, scan, filter, project, join, alias, union, distinct, sort, repartition, limit, aggregate}
use Rattle.plan.specs.Syntax.{window, Plans, pnil, pcons}
use Rattle.plan.specs.Trees.{column_label, label_e, kids_e, forest_e, in_front, each, nothing_below, field_label, entry_label, entry_kids, pair_label}
use Rattle.plan.specs.Trees.{pair_kids, key_label, key_kids, agg_label, agg_kids, win_label, win_kids, filter_kids, kids_p, forest_p, plan_tree}
use Rattle.acceptance.specs.Marks.{marks_in, marks_in_all, marks_in?, Rules, entry_marks, pair_marks, key_marks, agg_marks, win_marks}
use Rattle.acceptance.specs.Marks.{marks_of, marks_of_all}

-- all marks are true
abbrev pub kept : List Bool → Bool
kept ms = all (λ m. m) ms

pub none_false : (b : ℕ) (ms : List Bool) → first_false b ms ≡ None → kept ms ≡ true
unfolding first_false or_else unless all ◌&◌
none_false b [] h = refl
none_false b (true ∷ ms) h = none_false (b + 1) ms h
none_false b (false ∷ ms) h = let z : ◌≡◌ {A = ℕ} 0 1 = cc in absurd (omega arith)

pub all_kept : (b : ℕ) (ms : List Bool) → kept ms ≡ true → first_false b ms ≡ None
unfolding first_false or_else unless all ◌&◌
all_kept b [] h = refl
all_kept b (true ∷ ms) h = all_kept (b + 1) ms h
all_kept b (false ∷ ms) h = let z : ◌≡◌ {A = ℕ} 0 1 = cc in absurd (omega arith)

-- ---- a mark for each record

module _ {M : Type 0} (rule : Expr → M) where
  mutual
    unfolding marks_in kids_e

    pub marks_in_length : (e : Expr) → length (marks_in rule e) ≡ suc (size (kids_e e))
    marks_in_length (col x) = refl
    marks_in_length (num z) = refl
    marks_in_length (bool b) = refl
    marks_in_length (nul t) = refl
    marks_in_length (bin o a b) = simp (length-append, marks_in_length a, marks_in_length b) (omega arith)
    marks_in_length (neg a) = simp (marks_in_length a) (omega arith)
    marks_in_length (test t a) = simp (marks_in_length a) (omega arith)
    marks_in_length (between n a l u) = simp (length-append, marks_in_length a, marks_in_length l, marks_in_length u) (omega arith)
    marks_in_length (inlist n a xs) = simp (length-append, marks_in_length a, marks_in_all_length xs) (omega arith)
    marks_in_length (fn p q r xs) = simp (marks_in_all_length xs) (omega arith)

    marks_in_all_length : (xs : Exprs) → length (marks_in_all rule xs) ≡ size (forest_e xs)
    marks_in_all_length enil = refl
    marks_in_all_length (econs x xs) = simp (length-append, marks_in_length x, marks_in_all_length xs) (omega arith)

  marks_in?_length : (f : Option Expr) → length (marks_in? rule f) ≡ size (filter_kids f)
  marks_in?_length O.none = refl
  marks_in?_length (some e) = marks_in_length e ∙ omega arith

-- a run of parts, in front of other trees
run_length : {A M : Type 0} (f : A → List M) (l : A → Label) (k : A → Forest) → ((x : A) → length (f x) ≡ suc (size (k x)))
    → (xs : List A) (ns : Forest) → size (each l k xs ns) ≡ length (flatten f xs) + size ns
unfolding each flatten
run_length f l k h [] ns = omega arith
run_length f l k h (x ∷ xs) ns = simp (length-append, h x, run_length f l k h xs ns) (omega arith)

names_length : {M : Type 0} (g : Name → M) (xs : List Name) → size (each column_label nothing_below xs none) ≡ length (map g xs)
unfolding each
names_length g [] = refl
names_length g (x ∷ xs) = simp (names_length g xs) (omega arith)

fields_length : {M : Type 0} (g : Field → M) (fs : List Field) (ns : Forest)
    → size (each field_label nothing_below fs ns) ≡ length (map g fs) + size ns
unfolding each
fields_length g [] ns = omega arith
fields_length g (f ∷ fs) ns = simp (fields_length g fs ns) (omega arith)

module _ {M : Type 0} (R : Rules M) where
  one_length : (p : Plan) (e : Expr) → suc (length (marks_in (R.over p) e)) ≡ suc (size (in_front e none))
  one_length p e = simp (marks_in_length (R.over p)) (omega arith)

  pair_length : (l r : Plan) (k : Pair) → length (pair_marks R l r k) ≡ suc (size (pair_kids k))
  pair_length l r k = simp (length-append, marks_in_length (R.over l), marks_in_length (R.over r)) (omega arith)

  win_length : (p : Plan) (w : WinEntry) → length (win_marks R p w) ≡ suc (size (win_kids w))
  win_length p w = simp (length-append, marks_in_length (R.over p), names_length (λ x. R.over p (col x))) (omega arith)

  mutual
    unfolding marks_of kids_p

    marks_below : (p : Plan) → length (marks_of R p) ≡ suc (size (kids_p p))
    marks_below (scan t fs es) =
        let run = run_length (marks_in (R.over (scan t fs es))) label_e kids_e (marks_in_length (R.over (scan t fs es))) in
        simp (length-append, fields_length R.field, run) (omega arith)
    marks_below (filter e p) = simp (length-append, marks_in_length, marks_below p) (omega arith)
    marks_below (project es p) =
        simp (length-append, run_length (entry_marks R p) entry_label entry_kids (λ e. one_length p e.expr), marks_below p) (omega arith)
    marks_below (join k l r on f) =
        let keys = run_length (pair_marks R l r) pair_label pair_kids (pair_length l r) on (filter_kids f) in
        simp (length-append, keys, marks_below l, marks_below r, marks_in?_length) (omega arith)
    marks_below (alias q p) = simp (marks_below p) (omega arith)
    marks_below (union ps) = simp (marks_below_all ps) (omega arith)
    marks_below (distinct p) = simp (marks_below p) (omega arith)
    marks_below (sort f ks p) =
        simp (length-append, run_length (key_marks R p) key_label key_kids (λ k. one_length p k.expr), marks_below p) (omega arith)
    marks_below (repartition p) = simp (marks_below p) (omega arith)
    marks_below (limit n k p) = simp (marks_below p) (omega arith)
    marks_below (aggregate gs ags p) =
        simp (
          length-append,
          run_length (entry_marks R p) entry_label entry_kids (λ e. one_length p e.expr),
          run_length (agg_marks R p) agg_label agg_kids (λ a. one_length p a.expr),
          marks_below p,
        ) (omega arith)
    marks_below (window ws p) =
        simp (length-append, run_length (win_marks R p) win_label win_kids (win_length p), marks_below p) (omega arith)

    marks_below_all : (ps : Plans) → length (marks_of_all R ps) ≡ size (forest_p ps)
    marks_below_all pnil = refl
    marks_below_all (pcons p ps) = simp (length-append, marks_below p, marks_below_all ps) (omega arith)

  -- as many marks as the plan's tree has records: the place of a mark is the number of its record
  pub marks_of_length : (p : Plan) → length (marks_of R p) ≡ size_t (plan_tree p)
  marks_of_length p = marks_below p
