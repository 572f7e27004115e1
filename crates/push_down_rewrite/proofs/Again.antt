-- What is left of a Filter's predicate, and the Filter that two are merged into.
use Rattle.std.specs.Prelude.{Err}
use Prim.Native.Nat.{ℕ}
use mathlib.Core.Path.{◌≡◌, refl, sym, ap, subst, ◌∙◌}
use mathlib.Core.Bool.{true, false}
use mathlib.Core.List.{List, []}
use mathlib.Core.Option.{Option, none, some}
use lib.Dec.{eqb}
use borrow.Author.Tests.{ne_eqb}
use Rattle.plan.specs.Lists.{◌&◌, all}
use Rattle.plan.specs.Schema.{schema}
use Rattle.plan.specs.Syntax.{Expr, Plan, filter}
use Rattle.plan.specs.Trees.{label_p}
use Rattle.plan.proofs.Lists.{and_false}
use Rattle.acceptance.specs.NamesRule.{reads?}
use Rattle.rewrite.specs.Limits.{within_limits}
use Rattle.rewrite.specs.PushDownFilter.{merged, merges, merges_under, rewrite, rewrite_filter, simplify_filter, if_some, resume}
use Rattle.rewrite.specs.RewriteAt.{Focus}
use Rattle.rewrite.specs.Utils.{conjunction}
use Rattle.rewrite.proofs.SimplifyFilter.{simplify_filter_reads}
use Rattle.push_down_base.specs.Predicates.{Predicate}
use Rattle.push_down_base.specs.Arms.{Rests, Shaped}
use Rattle.push_down_base.proofs.Perhapsing.{is_gone}
use Rattle.push_down_merge.specs.Merging.{FilterInput, Remains, is_filter}
use Rattle.push_down_merge.proofs.OneMerge.{leaves_none, leaves_some, unmerged, kind_filter}
use Rattle.push_down_stays.proofs.Nodes.{AFilter, a_filter}
use Rattle.push_down_rewrite.specs.Filters.{Left}
use Rattle.push_down_merge.specs.declared.filter.TooLarge.{TooLarge}
use Rattle.push_down_rewrite.specs.Outcomes.{Outcome, Finishes}
use Rattle.push_down_rewrite.proofs.Finishes.{unfit}

-- ---- what is left, over a plan

-- something is left, over a plan that is no Filter
pub record LeftOn (s : List ℕ) (x : ℕ) (p : Predicate) (o : Option Expr) (q : Plan) : Type 0 where
  pub expr : Expr
  pub is : o ≡ some expr
  pub rests : Rests s x p expr q
  pub other : is_filter q ≡ false

-- what is said of some bytes is said of the same elsewhere
pub shaped_here : {s t : List ℕ} {p : Predicate} {e : Expr} → t ≡ s → Shaped t p e → Shaped s p e
shaped_here e h = rw (sym e) h

pub input_here : {s t : List ℕ} {x y : ℕ} {q : Plan} → t ≡ s → FilterInput t x y q → FilterInput s x y q
input_here e h = rw (sym e) h

pub left_elsewhere : {s t : List ℕ} {x : ℕ} {p : Predicate} {o : Option Expr} {q : Plan} → t ≡ s → Left s x p o q → Left t x p o q
left_elsewhere e h = rw e h

pub left_on : {s : List ℕ} {x : ℕ} {p : Predicate} {o : Option Expr} {q : Plan} → Left s x p o q → is_gone p ≡ false → LeftOn s x p o q
left_on {q = q} h g =
    let l = leaves_some h.remains g in
    record {
      expr = l.expr;
      is = l.is;
      rests = record { placed = h.placed; shaped = l.shaped; scope = subst (λ o. reads? (schema q) o ≡ true) l.is h.scope };
      other = h.other l.expr l.is;
    }

-- where nothing is left, or over no Filter, no Filters are merged
pub at_rest : {s : List ℕ} {x : ℕ} {p : Predicate} (e : Expr) {q : Plan} {work : List ℕ} {r : Outcome} {c : Focus} → Left s x p (simplify_filter e) q
    → Finishes work r c [] (resume (simplify_filter e) (λ x. rewrite_filter x q) q) → Finishes work r c (merges (filter e q)) (rewrite (filter e q))
unfolding merges rewrite
at_rest e {q} h f = rw (go (simplify_filter e) h.other) f
  where
    go : (o : Option Expr) → ((x : Expr) → o ≡ some x → is_filter q ≡ false) → if_some o (λ x. merges_under x q) ≡ []
    go none f = refl
    go (some x) f = unmerged x q (f x refl)

-- ---- the predicate is simplified, and the number of the plan below, n, is read

module _ {s : List ℕ} {x : ℕ} {p left : Predicate} {e : Expr} {q : Plan} (h : Rests s x p e q) (k : Remains s left (simplify_filter e)) where
  left_over : ((e' : Expr) → simplify_filter e ≡ some e' → is_filter q ≡ false) → Left s x left (simplify_filter e) q
  left_over f = record { placed = h.placed; remains = k; scope = simplify_filter_reads e (schema q) h.scope; other = f }

  pub left_gone : is_gone left ≡ true → Left s x left (simplify_filter e) q
  left_gone g = left_over (λ e' i. let z = leaves_none k g in cc)

  pub left_other : {n : ℕ} → n ≡ (label_p q).kind → (n ≡ 33 → ⊥) → Left s x left (simplify_filter e) q
  left_other {n} is f = left_over (λ e' i. sym (kind_filter q) ∙ ap (λ m. eqb m 33) (sym is) ∙ ne_eqb n 33 f)

  -- something is left, over a Filter
  pub record OverFilter : Type 0 where
    pub upper : Expr
    pub becomes : simplify_filter e ≡ some upper
    pub below : AFilter q
    pub rests : Rests s x left upper (filter below.expr below.plan)

  pub rests_over : {n : ℕ} → n ≡ (label_p q).kind → n ≡ 33 → is_gone left ≡ false → OverFilter
  rests_over is i g =
      let l = leaves_some k g in
      let a = a_filter q (sym is ∙ i) in
      record {
        upper = l.expr;
        becomes = l.is;
        below = a;
        rests =
            subst (λ q. Rests s x left l.expr q) a.is
            (record {
              placed = h.placed;
              shaped = l.shaped;
              scope = subst (λ o. reads? (schema q) o ≡ true) l.is (simplify_filter_reads e (schema q) h.scope);
            });
      }

  -- it is rewritten with that predicate
  pub with_left : {work : List ℕ} {r : Outcome} {c : Focus} (o : OverFilter)
      → let b = filter o.below.expr o.below.plan in Finishes work r c (merges_under o.upper b) (rewrite_filter o.upper b)
      → Finishes work r c (merges (filter e q)) (rewrite (filter e q))
  unfolding merges rewrite
  with_left o f = rw (o.becomes, o.below.is) f

-- ---- two Filters become one, which is rewritten again

module _ {work : List ℕ} {c : Focus} (e b : Expr) {m : Expr} (q : Plan) (i : conjunction (merged e b) ≡ some m) where
  -- the merged Filter fits
  pub again : {r : Outcome} → within_limits (c.back (filter m q)) ≡ true → Finishes work r c (merges (filter m q)) (rewrite (filter m q))
      → Finishes work r c (merges_under e (filter b q)) (rewrite_filter e (filter b q))
  unfolding merges_under merges rewrite_filter rewrite all ◌&◌
  again t f = rw i record { fit = f.fit ∙ rw t; flag = f.flag; image = f.image }

  -- it does not
  pub merge_unfit : {t : TooLarge} → within_limits (c.back (filter m q)) ≡ false
      → Finishes work (Err t) c (merges_under e (filter b q)) (rewrite_filter e (filter b q))
  unfolding merges_under all ◌&◌
  merge_unfit n = unfit (rw (i, n) (sym (and_false (within_limits (c.back (rewrite_filter e (filter b q)).plan)))))
