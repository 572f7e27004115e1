-- The pass by records: from each record that holds a plan to the next one. A rewrite at a record leaves the records before it as they are,
-- and the inputs of a plan stand behind it in order, so this is the pass that `Pass` defines by children (`proofs/PassAgrees`).
use Rattle.std.specs.Prelude.{ℕ, zero, suc, ◌+◌, cond, List, [], ◌∷◌, ◌++◌, leb}
use Rattle.std.proofs.Math.Option.{Option, none, some}
use Rattle.plan.specs.Syntax.{Plan, scan, filter, project, join, alias, union, distinct, sort, repartition, limit, aggregate, window, Plans}
use Rattle.plan.specs.Syntax.{pnil, pcons}
use Rattle.plan.specs.Measure.{size_e, size_p, sizes}
use Rattle.plan.specs.Trees.{bit_of, entry_kids, key_kids, agg_kids, win_kids}
use Rattle.rewrite.specs.RewriteAt.{granted, refused, rewrite_at}
use Rattle.rewrite.specs.Pass.{PassAnswer, passed, pass_refused}

-- the records at which plans stand, where the plan itself stands at `i`
unfoldable mutual
  pub plan_records : ℕ → Plan → List ℕ
  plan_records i (scan t fs es) = i ∷ []
  plan_records i (filter e p) = i ∷ plan_records (i + suc (size_e e)) p
  plan_records i (project es p) = i ∷ plan_records (i + suc (sizes entry_kids es)) p
  plan_records i (join k l r on g) = i ∷ (plan_records (i + 1) l ++ plan_records (i + suc (size_p l)) r)
  plan_records i (alias q p) = i ∷ plan_records (i + 1) p
  plan_records i (union ps) = i ∷ plan_records_all (i + 1) ps
  plan_records i (distinct p) = i ∷ plan_records (i + 1) p
  plan_records i (sort f ks p) = i ∷ plan_records (i + suc (sizes key_kids ks)) p
  plan_records i (repartition p) = i ∷ plan_records (i + 1) p
  plan_records i (limit a b p) = i ∷ plan_records (i + 1) p
  plan_records i (aggregate gs ags p) = i ∷ plan_records (i + suc (sizes entry_kids gs + sizes agg_kids ags)) p
  plan_records i (window ws p) = i ∷ plan_records (i + suc (sizes win_kids ws)) p

  pub plan_records_all : ℕ → Plans → List ℕ
  plan_records_all i pnil = []
  plan_records_all i (pcons p ps) = plan_records i p ++ plan_records_all (i + size_p p) ps

unfoldable pub first_from : ℕ → List ℕ → Option ℕ
first_from n [] = none
first_from n (m ∷ ms) = cond (leb n m) (some m) (first_from n ms)

-- the first record from `n` on that holds a plan
unfoldable pub plan_from : ℕ → Plan → Option ℕ
plan_from n p = first_from n (plan_records 0 p)

-- what is left of the budget, the next visit, the plan as it stands, visits and flags so far
unfoldable pub visits : ℕ → Option ℕ → Plan → ℕ → ℕ → PassAnswer
visits zero none p v c = passed v c 1 p
visits zero (some n) p v c = passed v c 0 p
visits (suc b) none p v c = passed v c 1 p
visits (suc b) (some n) p v c =
    elim (rewrite_at n p) [ granted f q ↦ visits b (plan_from (suc n) q) q (v + 1) (c + bit_of f) | refused k r ↦ pass_refused k r ]

unfoldable pub pass_by_records : ℕ → Plan → PassAnswer
pass_by_records budget p = visits budget (some 0) p 0 0
