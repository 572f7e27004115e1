-- Below the input of a Filter stand fewer plan nodes than below the Filter.
use Prim.Native.Nat.{ℕ, zero, suc, ◌+◌, ◌-◌, ◌*◌, ◌≤◌, ◌<◌}
use native.Mathlib.Omega.{arith}
use mathlib.Core.Path.{◌≡◌, ap, ◌∙◌}
use mathlib.Core.Bool.{Bool, true, false, cond}
use mathlib.Core.List.{List}
use lib.Dec.{eqb}
use lib.ListN.{length, drop}
use borrow.Author.Tests.{ne_eqb}
use Rattle.image.specs.Limits.{max_records, work_bytes}
use Rattle.image.specs.Tree.{label_at}
use Rattle.image.specs.Word.{word}
use Rattle.plan.specs.Kinds.{is_plan}
use Rattle.plan.specs.Measure.{size_e}
use Rattle.plan.specs.Syntax.{Expr, Plan, filter}
use Rattle.plan.specs.Trees.{kids_p}
use Rattle.rewrite.proofs.Marks.{plan_mark}
use Rattle.conjuncts.specs.Standing.{StandingP}
use Rattle.push_down_merge.proofs.Merges.{filter_next}
use Rattle.push_down_rewrite.specs.Filters.{plans, plans_below}

cond_more : (b : Bool) {m n : ℕ} → m ≤ n → cond b 0 m ≤ cond b 0 n
cond_more true h = omega arith
cond_more false h = h

-- by more links no fewer are found
plans_more : (j k : ℕ) (s : List ℕ) (link : ℕ) → j ≤ k → plans j s link ≤ plans k s link
unfolding plans
plans_more zero k s link h = omega arith
plans_more (suc j) zero s link h = absurd (omega arith)
plans_more (suc j) (suc k) s link h =
    let part = drop (32 * link) s in
    cond_more (eqb link 0)
    (omega (arith, plans_more j k s (word part 24) (omega arith), plans_more j k s (word part 28) (omega arith)))

-- one more link
plans_at : (k : ℕ) (s : List ℕ) (link : ℕ) → (link ≡ 0 → ⊥)
    → let part = drop (32 * link) s in plans (suc k) s link ≡ cond (is_plan (label_at part)) 1 0 + (plans k s (word part 24) + plans k s (word part 28))
unfolding plans
plans_at k s link n = rw (ne_eqb link 0 n)

pub plans_fall : {s : List ℕ} {x y : ℕ} {b : Expr} {q : Plan} → length s ≤ work_bytes → StandingP s x (filter b q)
    → y ≡ word (drop (32 * (x + 1)) s) 28 → StandingP s y q → plans_below s y < plans_below s x
unfolding plans_below kids_p size_e
plans_fall {s} {x} {y} {b} {q} short h e g =
    let k = max_records - (x + 2) in
    let far : x + 2 ≤ y = omega (arith, e, filter_next short h) in
    let first : word (drop (32 * x) s) 24 ≡ x + 1 = h.here.head.first in
    let n : max_records - x ≡ suc (suc k) = omega (arith, g.small) in
    let mark : is_plan (label_at (drop (32 * y) s)) ≡ true = ap is_plan g.here.head.label ∙ plan_mark q in
    rw (first, n)
    (omega (
      arith,
      plans_at (suc k) s (x + 1) (λ z. omega arith),
      ap (plans (suc k) s) e,
      rw mark at (plans_at k s y (λ z. omega arith)),
      plans_more (max_records - y) k s (word (drop (32 * y) s) 24) (omega arith),
    ))
