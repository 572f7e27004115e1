-- A Filter over a plan that takes it whole, or that takes none.
use Prim.Native.Nat.{ℕ, suc, ◌≤◌}
use native.Mathlib.Omega.{arith}
use mathlib.Core.Path.{◌≡◌, refl, sym}
use mathlib.Core.Bool.{true, false}
use mathlib.Core.List.{List}
use mathlib.Core.Option.{none, some}
use lib.ListN.{length}
use Rattle.image.specs.Limits.{work_bytes}
use Rattle.plan.specs.Syntax.{Expr, Plan, scan, filter, project, join, alias, union, distinct, sort, repartition, limit, aggregate, window}
use Rattle.plan.specs.Measure.{sizes}
use Rattle.plan.specs.Trees.{label_p, key_kids}
use Rattle.rewrite.specs.Limits.{list_p}
use Rattle.rewrite.specs.PushDownFilter.{transformed_no, transformed_yes, rewrite_filter}
use Rattle.conjuncts.specs.Standing.{StandingP}
use Rattle.push_down_base.specs.Predicates.{Predicate}
use Rattle.push_down_base.specs.Arms.{Rests, Takes}
use Rattle.push_down_arms.specs.Through.{through, takes_none}
use Rattle.push_down_arms.proofs.Framing.{sort_frame, distinct_frame, repartition_frame}
use Rattle.push_down_base.proofs.LastChild.{sort_last, distinct_last, repartition_last}
use Rattle.push_down_base.proofs.Steps.{sort_input, distinct_input, repartition_input}

-- it takes none: both stay as they are
pub stays : (e : Expr) (q : Plan) → through q ≡ true → takes_none (label_p q) ≡ true → rewrite_filter e q ≡ transformed_no (filter e q)
unfolding label_p rewrite_filter
stays e (limit n k p) h t = refl
stays e (sort (some n) ks p) h t = refl
stays e (sort none ks p) h t = cc
stays e (distinct p) h t = cc
stays e (repartition p) h t = cc
stays e (scan t fs es) h k = cc
stays e (filter b p) h t = cc
stays e (project es p) h t = cc
stays e (join k l r on f) h t = cc
stays e (alias q p) h t = cc
stays e (union ps) h t = cc
stays e (aggregate gs ags p) h t = cc
stays e (window ws p) h t = cc

-- the same of a plan that is the same
pub rests_as : {s : List ℕ} {x : ℕ} {p : Predicate} {e : Expr} {q r : Plan} → q ≡ r → Rests s x p e q → Rests s x p e r
rests_as i h = rw i at h

-- it takes the Filter whole
pub record Passes (s : List ℕ) (x : ℕ) (e : Expr) (q : Plan) : Type 0 where
  pub above : Plan → Plan
  pub input : Plan
  pub is : q ≡ above input
  pub takes : Takes s x above input
  pub rewritten : rewrite_filter e q ≡ transformed_yes (above (filter e input))

absurd_of : {A : Type 0} → true ≡ false → A
absurd_of e = let z : ◌≡◌ {A = ℕ} 0 1 = cc in absurd (omega arith)

pub at : {s : List ℕ} {m n : ℕ} {p : Plan} → m ≡ n → StandingP s m p → StandingP s n p
at {s} {p = p} e h = rw (← e) h

pub passes : {s : List ℕ} {x : ℕ} (e : Expr) (q : Plan) → length s ≤ work_bytes → StandingP s x q → through q ≡ true → takes_none (label_p q) ≡ false
    → Passes s x e q
unfolding label_p rewrite_filter list_p
passes {x = x} e (distinct p) short h i t = record {
  above = distinct;
  input = p;
  is = refl;
  takes = record { own = 1; frame = distinct_frame; last = distinct_last p x; input = distinct_input short h; lists = λ r. refl };
  rewritten = refl;
}
passes {x = x} e (repartition p) short h i t = record {
  above = repartition;
  input = p;
  is = refl;
  takes = record { own = 1; frame = repartition_frame; last = repartition_last p x; input = repartition_input short h; lists = λ r. refl };
  rewritten = refl;
}
passes {x = x} e (sort none ks p) short h i t = record {
  above = sort none ks;
  input = p;
  is = refl;
  takes = record {
    own = suc (sizes key_kids ks);
    frame = sort_frame none ks;
    last = sort_last none ks p x;
    input = at (omega arith) (sort_input short h);
    lists = λ r. refl;
  };
  rewritten = refl;
}
passes e (sort (some n) ks p) short h i t = absurd_of t
passes e (limit n k p) short h i t = absurd_of t
passes e (scan c fs es) short h i t = absurd_of (sym i)
passes e (filter b p) short h i t = absurd_of (sym i)
passes e (project es p) short h i t = absurd_of (sym i)
passes e (join k l r on f) short h i t = absurd_of (sym i)
passes e (alias q p) short h i t = absurd_of (sym i)
passes e (union ps) short h i t = absurd_of (sym i)
passes e (aggregate gs ags p) short h i t = absurd_of (sym i)
passes e (window ws p) short h i t = absurd_of (sym i)
