-- A Filter that is rewritten: a predicate over a plan of the image, in the place of a record, and what is left of it.
use Rattle.std.specs.Prelude.{◌≡◌, true, false, cond, List, ℕ, zero, suc, ◌+◌, ◌-◌, ◌*◌, eqb, drop}
use Rattle.std.proofs.Math.Option.{Option, some}
use Rattle.image.specs.Limits.{max_records}
use Rattle.image.specs.Tree.{label_at}
use Rattle.image.specs.Word.{word}
use Rattle.plan.specs.Kinds.{is_plan}
use Rattle.plan.specs.Syntax.{Expr, Plan, filter}
use Rattle.plan.specs.Schema.{schema}
use Rattle.acceptance.specs.NamesRule.{reads?}
use Rattle.rewrite.specs.RewriteAt.{Focus}
use Rattle.push_down_base.specs.Predicates.{Predicate}
use Rattle.push_down_base.specs.Arms.{Placed, Rests}
use Rattle.push_down_merge.specs.Merging.{Remains, Inside, is_filter}

-- a predicate rests on the plan at record x, in the place of record `node` of the whole
pub record OnPlan (s : List ℕ) (node : ℕ) (p : Predicate) (x : ℕ) : Type 0 where
  pub whole : Plan
  pub spot : Focus
  pub inside : Inside s node whole spot
  pub expr : Expr
  pub plan : Plan
  pub rests : Rests s x p expr plan

-- the plan is a Filter
pub record OnFilter (s : List ℕ) (node : ℕ) (p : Predicate) (x : ℕ) : Type 0 where
  pub whole : Plan
  pub spot : Focus
  pub inside : Inside s node whole spot
  pub expr : Expr
  pub lower : Expr
  pub plan : Plan
  pub rests : Rests s x p expr (filter lower plan)

-- o is left of a predicate over the plan q at record x; where that is something, the plan is no Filter
pub record Left (s : List ℕ) (x : ℕ) (p : Predicate) (o : Option Expr) (q : Plan) : Type 0 where
  pub placed : Placed s x q
  pub remains : Remains s p o
  pub scope : reads? (schema q) o ≡ true
  pub other : (e : Expr) → o ≡ some e → is_filter q ≡ false

-- something or nothing is left there
pub record SomeLeft (s : List ℕ) (x : ℕ) (p : Predicate) : Type 0 where
  pub option : Option Expr
  pub plan : Plan
  pub left : Left s x p option plan

-- .. in the place of record `node` of the whole
pub record LeftInside (s : List ℕ) (node : ℕ) (p : Predicate) (x : ℕ) : Type 0 where
  pub whole : Plan
  pub spot : Focus
  pub inside : Inside s node whole spot
  pub option : Option Expr
  pub plan : Plan
  pub left : Left s x p option plan

-- ---- what falls

-- the plan nodes among what a link leads to, by at most k links
unfoldable pub plans : ℕ → List ℕ → ℕ → ℕ
plans zero s link = 0
plans (suc k) s link =
    let part = drop (32 * link) s in
    cond (eqb link 0) 0 (cond (is_plan (label_at part)) 1 0 + (plans k s (word part 24) + plans k s (word part 28)))

-- the plan nodes below the plan at record x: every link leads to a later record
unfoldable pub plans_below : List ℕ → ℕ → ℕ
plans_below s x = plans (max_records - x) s (word (drop (32 * x) s) 24)
