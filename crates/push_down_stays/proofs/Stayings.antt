-- Why a plan that stays does: the laws that the decision cites.
use Rattle.std.specs.Prelude.{Option as Maybe, Some, None, is_some}
use Prim.Native.Nat.{ℕ}
use native.Mathlib.Omega.{arith}
use mathlib.Core.Path.{◌≡◌, refl, sym, ap, subst, ◌∙◌}
use mathlib.Core.Bool.{Bool, true, false, not}
use mathlib.Core.List.{List, []}
use mathlib.Core.Option.{Option, none, some}
use lib.Dec.{eqb}
use lib.ListN.{length}
use borrow.Author.Tests.{eqb-true, eqb-false}
use Rattle.std.specs.Prelude as P
use Rattle.image.specs.Subtrees.{Subtree, tree_of}
use Rattle.image.specs.Chains.{only}
use Rattle.plan.specs.Columns.{on_cols}
use Rattle.plan.specs.Schema.{schema}
use Rattle.plan.specs.Kinds as K
use Rattle.plan.specs.Kinds.{What, expr, plan, part, unknown, what_of}
use Rattle.plan.specs.Syntax.{Expr, Field, Entry, AggEntry, WinEntry, Pair, Kind, Plan}
use Rattle.plan.specs.Syntax.{scan, filter, project, join, alias, union, distinct, sort, repartition, limit, aggregate, window}
use Rattle.plan.specs.Trees.{label_p, expr_tree, plan_tree}
use Rattle.plan.proofs.Lists.{and_l}
use Rattle.acceptance.specs.NamesRule.{reads, rule, ok}
use Rattle.rewrite.specs.Utils.{split_conjunction, split_conjunction?, conjunction, with_filters}
use Rattle.rewrite.specs.PushDownFilter.{Transformed, transformed_no, supported_filters, in_groups, stay, move, nothing_moves, push_down_join}
use Rattle.rewrite.specs.PushDownFilter.{simplify_filter, rewrite_filter, rewrite, merges}
use Rattle.rewrite.proofs.Staying.{none_of, all_left, filtered, join_stays, bare_join_stays, filter_join_stays}
use Rattle.rewrite.proofs.Exprs.{same_e_eq}
use Rattle.conjuncts.specs.Says.{Says, LeftDeep}
use Rattle.conjuncts.specs.Standing.{Standing, StandingP}
use Rattle.conjuncts.proofs.Equals.{is_same, same_exprs}
use Rattle.conjuncts.proofs.Standing.{tree_standing}
use Rattle.push_down_base.specs.Arms.{Shaped, Placed, Rests}
use Rattle.push_down_arms.specs.Divided.{pushed}
use Rattle.push_down_merge.specs.Merging.{is_filter}
use Rattle.push_down_arms.specs.Movable.{may_move}
use Rattle.push_down_base.specs.Predicates.{Predicate}
use Rattle.push_down_arms.specs.Through.{takes_none}
use Rattle.push_down_arms.proofs.Divisions.{aggregate_pushed, window_pushed, project_kept}
use Rattle.push_down_join.specs.JoinPlans.{FilterOf, has_none, has_one}
use Rattle.push_down_merge.proofs.OneMerge.{input_placed, unmerged}
use Rattle.push_down_base.proofs.Plain.{split_some}
use Rattle.push_down_arms.proofs.ScanShares.{scan_kept}
use Rattle.push_down_stays.specs.Staying.{Kept, Stays, may_stay}
use Rattle.push_down_stays.proofs.Differing.{itself, left_plain, scan_was, project_was, aggregate_was, window_was, over_join_was, join_was}
use Rattle.push_down_stays.proofs.Differing.{may_not_stay, simple_was}
use Rattle.plan.proofs.Bools.{no_yes}

-- ---- tests

pub says_not : {A : Type 0} → (A → ⊥) → Says false A
says_not f = record { yes = λ y. no_yes y; no = λ n a. f a }

pub says_so : {A : Type 0} → A → Says true A
says_so a = record { yes = λ y. a; no = λ n. no_yes (sym n) }

-- a test whose answer is known
pub says_as : {a b : Bool} {A : Type 0} → a ≡ b → Says a A → Says b A
says_as e h = record { yes = λ y. h.yes (e ∙ y); no = λ n. h.no (e ∙ n) }

pub kept_as : {a b : Bool} {t : Transformed} {p : Plan} → a ≡ b → Kept a t p → Kept b t p
kept_as e h = record { yes = λ y. h.yes (e ∙ y); no = λ n. h.no (e ∙ n) }

-- ---- a join's own filter

module _ {s : List ℕ} where
  -- it is at record n
  pub own_stands : {t : Subtree} {f : Option Expr} {b : Bool} → FilterOf s (P.Some t) f
      → ((e : Expr) → tree_of t ≡ expr_tree e → Standing t.image.now t.number e → Says b (LeftDeep e)) → Says b (conjunction (split_conjunction? f) ≡ f)
  unfolding split_conjunction?
  own_stands {t} (has_one {e = e} here h pos) g = g e (tree_standing t here refl h) (subst (λ z. Standing z t.number e) (sym here) h)

  -- .. by its tree
  pub own_deep : {t : Subtree} {f : Option Expr} {b : Bool} → FilterOf s (P.Some t) f
      → ((e : Expr) → tree_of t ≡ expr_tree e → Says b (LeftDeep e)) → Says b (conjunction (split_conjunction? f) ≡ f)
  own_deep w g = own_stands w (λ e is h. g e is)

  -- there is none
  pub own_bare : {f : Option Expr} → FilterOf s P.None f → Says true (conjunction (split_conjunction? f) ≡ f)
  unfolding split_conjunction? conjunction
  own_bare has_none = says_so refl

no_conjuncts : (f : Option Expr) → length (split_conjunction? f) ≡ 0 → f ≡ none
unfolding split_conjunction?
no_conjuncts none h = refl
no_conjuncts (some e) h = absurd (omega (arith, split_some e))

-- ---- whether anything moves

pub not_not : (b : Bool) → not (not b) ≡ b
not_not true = refl
not_not false = refl

-- ---- Joins

pub kept_so : {t : Transformed} {p : Plan} → t ≡ transformed_no p → Kept true t p
kept_so h = record { yes = λ y. h; no = λ n. no_yes (sym n) }

pub kept_not : {t : Transformed} {p : Plan} → (t.plan ≡ p → ⊥) → Kept false t p
kept_not f = record { yes = λ y. no_yes y; no = λ n. f }

module _ (k : Kind) (l r : Plan) (on : List Pair) (f : Option Expr) where
  pub bare_join_kept : length (split_conjunction? f) ≡ 0 → Kept true (push_down_join k l r on f []) (join k l r on f)
  bare_join_kept h = rw (no_conjuncts f h) (kept_so (bare_join_stays k l r on))

  pub join_kept : {b : Bool} → Says true (conjunction (split_conjunction? f) ≡ f)
      → b ≡ nothing_moves k (schema l) (schema r) on [] (split_conjunction? f) → Kept b (push_down_join k l r on f []) (join k l r on f)
  join_kept own m = record {
    yes = λ y. join_stays k l r on f (own.yes refl) (sym m ∙ y);
    no = λ n h. no_yes (sym n ∙ (m ∙ (join_was k l r on f h).unmoved));
  }

  pub join_shallow : Says false (conjunction (split_conjunction? f) ≡ f) → Kept false (push_down_join k l r on f []) (join k l r on f)
  join_shallow own = kept_not (λ h. own.no refl (join_was k l r on f h).own)

  module _ (e : Expr) where
    pub over_join_kept : {b : Bool} → Says true (conjunction (split_conjunction? f) ≡ f) → Says true (LeftDeep e)
        → b ≡ nothing_moves k (schema l) (schema r) on (split_conjunction e) (split_conjunction? f)
        → Kept b (rewrite_filter e (join k l r on f)) (filter e (join k l r on f))
    over_join_kept own deep m = record {
      yes = λ y. filter_join_stays k l r on f (own.yes refl) e (deep.yes refl) (sym m ∙ y);
      no = λ n h. no_yes (sym n ∙ (m ∙ (over_join_was k l r on f (itself e) h).1.1.unmoved));
    }

    pub over_join_shallow : Says false (conjunction (split_conjunction? f) ≡ f)
        → Kept false (rewrite_filter e (join k l r on f)) (filter e (join k l r on f))
    over_join_shallow own = kept_not (λ h. own.no refl (over_join_was k l r on f (itself e) h).1.1.own)

    pub above_join_shallow : Says false (LeftDeep e) → Kept false (rewrite_filter e (join k l r on f)) (filter e (join k l r on f))
    above_join_shallow deep = kept_not (λ h. deep.no refl (over_join_was k l r on f (itself e) h).1.0)

-- ---- Filters over TableScan, Projection, Aggregate, Window

pub scan_kept? : {s : List ℕ} {x n t : ℕ} {p : Predicate} {e : Expr} {fs : List Field} {es : List Expr} → Rests s x p e (scan t fs es)
    → n ≡ length (supported_filters fs e) → Kept (eqb n 0) (rewrite_filter e (scan t fs es)) (filter e (scan t fs es))
scan_kept? {n = n} {t} {e = e} {fs} {es} h i = record {
  yes = λ y. scan_kept h (sym i ∙ eqb-true n 0 y);
  no = λ z k. eqb-false n 0 z (i ∙ ap length (scan_was (itself e) t fs es (left_plain fs e) k).1);
}

pub project_kept? : {n : ℕ} (e : Expr) (es : List Entry) (q : Plan) → n ≡ length (move (on_cols (may_move (plan_tree (project es q)))) e)
    → Kept (eqb n 0) (rewrite_filter e (project es q)) (filter e (project es q))
project_kept? {n} e es q i = record {
  yes = λ y. project_kept e es q (sym i ∙ eqb-true n 0 y);
  no = λ z k. eqb-false n 0 z (i ∙ (project_was (itself e) es q k).1);
}

-- nothing moves, and what stays is joined anew
pushed_none : (f : Plan → Plan) (q : Plan) {e : Expr} (push : Expr → Bool) → LeftDeep e → length (move push e) ≡ 0
    → pushed f q (stay push e) (move push e) ≡ transformed_no (filter e (f q))
unfolding with_filters
pushed_none f q {e} push deep z =
    let m = none_of (move push e) z in
    rw (all_left push (split_conjunction e) m, m) (ap transformed_no (filtered (split_conjunction e) (f q) deep))

module _ (e : Expr) (gs : List Entry) (ags : List AggEntry) (q : Plan) where
  pub aggregate_kept : {b : Bool} → length (move (in_groups gs) e) ≡ 0 → Says b (LeftDeep e)
      → Kept b (rewrite_filter e (aggregate gs ags q)) (filter e (aggregate gs ags q))
  aggregate_kept z deep = record {
    yes = λ y. aggregate_pushed e gs ags q ∙ pushed_none (aggregate gs ags) q (in_groups gs) (deep.yes y) z;
    no = λ n k. deep.no n (aggregate_was (itself e) gs ags q k).1.1;
  }

  pub aggregate_moves : (length (move (in_groups gs) e) ≡ 0 → ⊥) → Kept false (rewrite_filter e (aggregate gs ags q)) (filter e (aggregate gs ags q))
  aggregate_moves nz = kept_not (λ k. nz (aggregate_was (itself e) gs ags q k).1.0)

module _ (e : Expr) (ws : List WinEntry) (q : Plan) where
  pub window_kept : {b : Bool} → length (move (on_cols (may_move (plan_tree (window ws q)))) e) ≡ 0 → Says b (LeftDeep e)
      → Kept b (rewrite_filter e (window ws q)) (filter e (window ws q))
  window_kept z deep = record {
    yes = λ y. window_pushed e ws q ∙ pushed_none (window ws) q _ (deep.yes y) z;
    no = λ n k. deep.no n (window_was (itself e) ws q k).1.1;
  }

  pub window_moves : (length (move (on_cols (may_move (plan_tree (window ws q)))) e) ≡ 0 → ⊥)
      → Kept false (rewrite_filter e (window ws q)) (filter e (window ws q))
  window_moves nz = kept_not (λ k. nz (window_was (itself e) ws q k).1.0)

-- ---- Filters over any plan

-- b says of a predicate that rests on a plan whether both stay
abbrev pub stays_over : List ℕ → ℕ → Predicate → Expr → Bool → Plan → Type 0
stays_over s x p e b q = Rests s x p e q → Kept b (rewrite_filter e q) (filter e q)

-- over these takes_none alone decides
abbrev pub decided : What → Bool
decided (plan K.TableScan) = false
decided (plan K.Projection) = false
decided (plan K.Join) = false
decided (plan K.Aggregate) = false
decided (plan K.Window) = false
decided (plan K.SubqueryAlias) = true
decided (plan K.Union) = true
decided (plan K.Distinct) = true
decided (plan K.Sort) = true
decided (plan K.Repartition) = true
decided (plan K.Limit) = true
decided (plan K.Filter) = true
decided (expr k) = true
decided (part k) = true
decided unknown = true

kept_over : {b : Bool} (e : Expr) (q : Plan) → is_filter q ≡ false → decided (what_of (label_p q).kind) ≡ true → b ≡ takes_none (label_p q)
    → Kept b (rewrite_filter e q) (filter e q)
unfolding label_p rewrite_filter what_of K.among
kept_over e (scan t fs es) o d h = no_yes d
kept_over e (filter b p) o d h = no_yes (sym o)
kept_over e (project es p) o d h = no_yes d
kept_over e (join k l r on f) o d h = no_yes d
kept_over e (alias q p) o d h = rw h (kept_not (λ k. let z : ◌≡◌ {A = ℕ} 0 1 = cc in absurd (omega arith)))
kept_over e (union ps) o d h = rw h (kept_not (λ k. let z : ◌≡◌ {A = ℕ} 0 1 = cc in absurd (omega arith)))
kept_over e (distinct p) o d h = rw h (kept_not (λ k. let z : ◌≡◌ {A = ℕ} 0 1 = cc in absurd (omega arith)))
kept_over e (sort none ks p) o d h = rw h (kept_not (λ k. let z : ◌≡◌ {A = ℕ} 0 1 = cc in absurd (omega arith)))
kept_over e (sort (some n) ks p) o d h = rw h (kept_so refl)
kept_over e (repartition p) o d h = rw h (kept_not (λ k. let z : ◌≡◌ {A = ℕ} 0 1 = cc in absurd (omega arith)))
kept_over e (limit n k p) o d h = rw h (kept_so refl)
kept_over e (aggregate gs ags p) o d h = no_yes d
kept_over e (window ws p) o d h = no_yes d

pub through_kept : {n : ℕ} {w : What} {b : Bool} (e : Expr) (q : Plan) → is_filter q ≡ false → n ≡ (label_p q).kind → w ≡ what_of n
    → decided w ≡ true → b ≡ takes_none (label_p q) → Kept b (rewrite_filter e q) (filter e q)
through_kept e q o is told d h = kept_over e q o (ap (λ m. decided (what_of m)) (sym is) ∙ ap decided (sym told) ∙ d) h

-- ---- the Filter

pub may_stay_other : (q : Plan) → may_stay (label_p q) ≡ true → is_filter q ≡ false
unfolding label_p
may_stay_other (filter b p) t = no_yes t
may_stay_other (scan t fs es) k = refl
may_stay_other (project es p) t = refl
may_stay_other (join k l r on f) t = refl
may_stay_other (alias q p) t = refl
may_stay_other (union ps) t = refl
may_stay_other (distinct p) t = refl
may_stay_other (sort f ks p) t = refl
may_stay_other (repartition p) t = refl
may_stay_other (limit n k p) t = refl
may_stay_other (aggregate gs ags p) t = refl
may_stay_other (window ws p) t = refl

module _ (e : Expr) (q : Plan) where
  -- it may not stay over its input
  pub filter_goes : may_stay (label_p q) ≡ false → Stays false (filter e q)
  filter_goes t = record { kept = kept_not (may_not_stay e q t); unmerged = λ y. no_yes y }

  module _ (o : is_filter q ≡ false) where
    -- something moves
    pub filter_moves : Kept false (rewrite_filter e q) (filter e q) → Stays false (filter e q)
    unfolding rewrite
    filter_moves k = record {
      kept = kept_not (λ h. k.no refl (rw (simple_was e q o h) at h));
      unmerged = λ y. no_yes y;
    }

    -- nothing does, and the predicate decides
    pub filter_simple : {b : Bool} → Kept true (rewrite_filter e q) (filter e q) → Says b (simplify_filter e ≡ some e) → Stays b (filter e q)
    unfolding rewrite merges
    filter_simple k i = record {
      kept = record { yes = λ y. rw (i.yes y) (k.yes refl); no = λ n h. i.no n (simple_was e q o h) };
      unmerged = λ y. rw (i.yes y) (unmerged e q o);
    }

  -- a Filter that was read, with its predicate as it is written
  pub rests_written : {s : List ℕ} {node y : ℕ} {p : Predicate} → Placed s node (filter e q) → Shaped s p e → StandingP s y q → Rests s y p e q
  unfolding rule
  rests_written h k l = record {
    placed = input_placed e h.short h.rules h.lists l;
    shaped = k;
    scope = and_l (reads (schema q) e) (ok q) h.rules;
  }

-- ---- a Join

pub join_stays_so : {b : Bool} (k : Kind) (l r : Plan) (on : List Pair) (f : Option Expr) → Kept b (push_down_join k l r on f []) (join k l r on f)
    → Stays b (join k l r on f)
unfolding rewrite merges
join_stays_so k l r on f h = record { kept = h; unmerged = λ y. refl }

-- ---- a predicate that is simplified

-- what stands at a record
same_standing : {s : List ℕ} {n : ℕ} {a b : Expr} → Standing s n a → Standing s n b → a ≡ b
same_standing {a = a} {b} h k = same_e_eq a b (sym (same_exprs a b h.fits k.fits) ∙ is_same _ _ (only h.here k.here))

-- x is left of it
module _ {s : List ℕ} {p r : Predicate} {e x : Expr} (h : Shaped s p e) (i : simplify_filter e ≡ some x) (k : Shaped s r x) where
  -- as it is written
  pub simple_written : is_some r.written ≡ true → r ≡ p → Says true (simplify_filter e ≡ some e)
  simple_written w same = go r.written refl w
    where
      go : (o : Maybe ℕ) → r.written ≡ o → is_some o ≡ true → Says true (simplify_filter e ≡ some e)
      go None m t = cc
      go (Some n) m t =
          says_so (i ∙ ap some (same_standing (k.stands n m).1 (h.stands n (ap (λ (q : Predicate). q.written) (sym same) ∙ m)).1))

  -- joined anew, of the same conjuncts
  pub simple_joined : {b : Bool} → is_some r.written ≡ false → split_conjunction x ≡ split_conjunction e → Says b (LeftDeep e)
      → Says b (simplify_filter e ≡ some e)
  simple_joined z same deep =
      let j : conjunction (split_conjunction e) ≡ some x = ap conjunction (sym same) ∙ k.joined (go r.written z) in
      record { yes = λ y. let d = deep.yes y in cc; no = λ n m. deep.no n (cc) }
    where
      go : (o : Maybe ℕ) → is_some o ≡ false → o ≡ None
      go None f = refl
      go (Some n) f = cc

  -- of others
  pub simple_other : (split_conjunction x ≡ split_conjunction e → ⊥) → Says false (simplify_filter e ≡ some e)
  simple_other f = says_not (λ m. let j : x ≡ e = cc in f (ap split_conjunction j))

pub simple_gone : {e : Expr} → simplify_filter e ≡ none → Says false (simplify_filter e ≡ some e)
simple_gone i = says_not (λ m. let z : ◌≡◌ {A = ℕ} 0 1 = cc in absurd (omega arith))

-- a predicate that rests on a plan rests on it in the same bytes elsewhere
pub rests_elsewhere : {s t : List ℕ} {x : ℕ} {p : Predicate} {e : Expr} {q : Plan} → t ≡ s → Rests s x p e q → Rests t x p e q
rests_elsewhere e h = rw e h
