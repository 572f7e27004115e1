-- What the code of a rewrite is asked and answers: a predicate that rests on a plan of the image, and the plan that is written for both.
use Rattle.std.specs.Prelude.{◌≡◌, true, Some, None, List, ℕ, ◌+◌, ◌≤◌, ◌<◌, length}
use Rattle.std.proofs.Math.Option.{some}
use Rattle.image.specs.Limits.{max_list, no_room, work_bytes}
use Rattle.image.specs.Room.{Wrote}
use Rattle.plan.specs.Syntax.{Expr, Plan, Plans, alias, union}
use Rattle.plan.specs.Schema.{schema}
use Rattle.plan.specs.Trees.{plan_tree, kids_p}
use Rattle.acceptance.specs.NamesRule.{reads, ok}
use Rattle.rewrite.specs.Utils.{split_conjunction, conjunction}
use Rattle.rewrite.specs.Limits.{list_p}
use Rattle.rewrite.specs.PushDownFilter.{Transformed}
use Rattle.conjuncts.specs.Standing.{Standing, StandingP}
use Rattle.conjuncts.specs.Items.{Lists}
use Rattle.push_down_base.specs.Predicates.{Predicate}
use Rattle.push_down_base.specs.Frames.{Frame}
use Rattle.push_down_base.specs.Inputs.{last_of}
use Rattle.push_down_base.specs.declared.predicates.Written as declared

-- the code's predicate p is e: as it is written at a record, or its conjuncts joined left-deep
pub record Shaped (s : List ℕ) (p : Predicate) (e : Expr) : Type 0 where
  pub listed : Lists s p.list (split_conjunction e)
  pub most : p.list.len ≤ max_list
  pub stands : (n : ℕ) → p.written ≡ Some n → (0 < n) × Standing s n e
  pub joined : p.written ≡ None → conjunction (split_conjunction e) ≡ some e

-- p is some predicate of some image
pub record Shapely (p : Predicate) : Type 0 where
  pub image : List ℕ
  pub expr : Expr
  pub shaped : Shaped image p expr

-- the plan q stands at record x of the image, keeps the name rules, and has no list that is too long
pub record Placed (s : List ℕ) (x : ℕ) (q : Plan) : Type 0 where
  pub short : length s ≤ work_bytes
  pub standing : StandingP s x q
  pub rules : ok q ≡ true
  pub lists : list_p q ≤ max_list

-- the predicate p, which is e, rests on the plan q at record x and reads its schema
pub record Rests (s : List ℕ) (x : ℕ) (p : Predicate) (e : Expr) (q : Plan) : Type 0 where
  pub placed : Placed s x q
  pub shaped : Shaped s p e
  pub scope : reads (schema q) e ≡ true

-- some predicate rests there
pub record Resting (s : List ℕ) (x : ℕ) (p : Predicate) : Type 0 where
  pub expr : Expr
  pub plan : Plan
  pub rests : Rests s x p expr plan

-- what a rewrite answers: the record after the plan that it wrote, and whether it raised the flag
abbrev pub Written : Type 0
Written = declared.Written

-- the answer t is written from record `at` on, its top at depth `level`; where a list of it is too long, nothing is, and there is no room
pub record Answers (before after : List ℕ) (at level : ℕ) (r : Written) (t : Transformed) : Type 0 where
  pub flag : r.flag ≡ t.transformed
  pub fits : list_p t.plan ≤ max_list → Wrote before after at level r.next (plan_tree t.plan)
  pub over : max_list < list_p t.plan → (r.next ≡ no_room) × (after ≡ before)

-- the plan at record x is f q: a frame around its input q, which is its last child, and with no list of its own
pub record Takes (s : List ℕ) (x : ℕ) (f : Plan → Plan) (q : Plan) : Type 0 where
  pub own : ℕ
  pub frame : Frame f own
  pub last : last_of 0 (x + 1) (kids_p (f q)) ≡ x + own
  pub input : StandingP s (x + own) q
  pub lists : (r : Plan) → list_p (f r) ≡ list_p r

-- some predicate rests on such a plan
pub record Taken (s : List ℕ) (x : ℕ) (p : Predicate) : Type 0 where
  pub expr : Expr
  pub plan : Plan
  pub above : Plan → Plan
  pub rests : Rests s x p expr (above plan)
  pub takes : Takes s x above plan

-- some predicate rests on a SubqueryAlias
pub record OverAlias (s : List ℕ) (x : ℕ) (p : Predicate) : Type 0 where
  pub expr : Expr
  pub qualifier : ℕ
  pub plan : Plan
  pub rests : Rests s x p expr (alias qualifier plan)

-- .. on a Union
pub record OverUnion (s : List ℕ) (x : ℕ) (p : Predicate) : Type 0 where
  pub expr : Expr
  pub inputs : Plans
  pub rests : Rests s x p expr (union inputs)
