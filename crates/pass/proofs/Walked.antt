-- The walk from its start to its end: where it begins, when it goes on, and what the pass comes to where it ends.
use Prim.Native.Nat.{ℕ, zero, suc, ◌≤◌, ◌<◌}
use native.Mathlib.Omega.{arith}
use mathlib.Core.Path.{◌≡◌, refl, sym, ap, ◌∙◌}
use mathlib.Core.Bool.{Bool, true, false}
use mathlib.Core.List.{List}
use mathlib.Core.Option.{none, some}
use lib.Dec.{leb}
use borrow.Author.Tests.{leb-false}
use Rattle.plan.specs.Lists.{choose}
use Rattle.plan.specs.Syntax.{Plan}
use Rattle.plan.specs.Trees.{bit_of}
use Rattle.plan.proofs.Measure.{one_record}
use Rattle.acceptance.specs.Accepted.{WellFormed}
use Rattle.rewrite.specs.Pass.{PassAnswer, passed, pass}
use Rattle.rewrite.proofs.Holes.{found_here, whole}
use Rattle.rewrite.proofs.PassAgrees.{pass_agrees}
use Rattle.rewrite.specs.PassByRecords.{visits, pass_by_records}
use Rattle.push_down_merge.proofs.Root.{plan_fits}
use Rattle.push_down_rewrite.specs.Outcomes.{Image}
use Rattle.pass.specs.Walks.{Walk, within, rest, Going, Left}
use Rattle.pass.proofs.Steps.{within_some}

-- ---- the start

abbrev pub start : ℕ → ℕ → Walk
start records budget = record { records = records; next = 0; left = budget; visits = 0; changed = 0 }

pub begun : {s : List ℕ} {records : ℕ} (budget : ℕ) {q : Plan} → WellFormed q → Image s records q → budget ≤ 18446744073709551615
    → Going s (start records budget) (pass budget q)
unfolding rest pass_by_records
begun {s} {records} budget {q} w i b = record {
  plan = q;
  stands = record { well = w; image = i; there = λ h. record { spot = _; there = found_here whole q }; most = omega arith; raised = omega arith };
  comes =
      pass_agrees budget q (plan_fits q w)
      ∙ ap (λ o. visits budget o q 0 0) (sym (within_some 0 records (omega (arith, i.count, one_record q))));
}

-- ---- the end

halts : (left : ℕ) (b : Bool) (n : ℕ) → (b ≡ false → left ≡ 0) → (q : Plan) (v c : ℕ)
    → visits left (choose b none (some n)) q v c ≡ passed v c (bit_of b) q
unfolding visits choose
halts zero true n h q v c = refl
halts zero false n h q v c = refl
halts (suc left) true n h q v c = refl
halts (suc left) false n h q v c = absurd (omega (arith, h refl))

module _ {s : List ℕ} {w : Walk} {x : PassAnswer} (g : Going s w x) where
  halted : (w.next < w.records → w.left ≡ 0) → Left s w x
  unfolding rest within
  halted h = record {
    plan = g.plan;
    image = g.stands.image;
    is = g.comes ∙ halts w.left (leb w.records w.next) w.next (λ e. h (leb-false w.records w.next e)) g.plan w.visits w.changed;
  }

  -- no plan is left
  pub through : w.records ≤ w.next → Left s w x
  through h = halted (λ l. absurd (omega arith))

  -- nothing of the budget is
  pub spent : w.left ≡ 0 → Left s w x
  spent h = halted (λ l. h)
