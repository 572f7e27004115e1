-- What the code of a rewrite asks for.
use Rattle.std.specs.Prelude.{◌≡◌, false, List, ℕ}
use Rattle.plan.specs.Syntax.{Expr, Plan, join, Kind, Pair}
use Rattle.std.proofs.Math.Option.{Option}
use Rattle.acceptance.specs.Accepted.{Accepted}
use Rattle.rewrite.specs.OnBytes.{plan_in}
use Rattle.rewrite.specs.RewriteAt.{Focus}
use Rattle.push_down_base.specs.Predicates.{Predicate}
use Rattle.push_down_base.specs.Arms.{Rests}
use Rattle.push_down_merge.specs.Merging.{Inside, is_filter}

-- some predicate rests on a plan at record x, which is no Filter
pub record OnInput (s : List ℕ) (x : ℕ) (p : Predicate) : Type 0 where
  pub expr : Expr
  pub plan : Plan
  pub rests : Rests s x p expr plan
  pub other : is_filter plan ≡ false

-- some plan stands at record `node` of the image
pub record Found (s : List ℕ) (node : ℕ) : Type 0 where
  pub whole : Plan
  pub spot : Focus
  pub inside : Inside s node whole spot

-- a Join does
pub record JoinInside (s : List ℕ) (node : ℕ) : Type 0 where
  pub whole : Plan
  pub spot : Focus
  pub inside : Inside s node whole spot
  pub kind : Kind
  pub lhs : Plan
  pub rhs : Plan
  pub keys : List Pair
  pub condition : Option Expr
  pub is : spot.plan ≡ join kind lhs rhs keys condition

-- the plan in the bytes s is accepted
pub record Whole (s : List ℕ) : Type 0 where
  pub accepted : Accepted s (plan_in s)

-- a plan stands at record n of it
pub record Here (s : List ℕ) (n : ℕ) : Type 0 where
  pub whole : Whole s
  pub spot : Focus
  pub inside : Inside s n (plan_in s) spot
