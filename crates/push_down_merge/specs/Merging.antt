-- What the merging of Filters is asked and answers: predicates that are simplified and merged, and the plan after a merge.
use Rattle.std.specs.Prelude.{◌≡◌, None, Bool, true, false, ◌&&◌, leb, List, ◌++◌, ℕ, ◌+◌, ◌*◌, ◌≤◌, ◌<◌, length, drop}
use Rattle.std.proofs.Math.Option.{Option, none, some}
use Rattle.image.specs.Word.{word}
use Rattle.image.specs.Flat.{flat, size_t}
use Rattle.image.specs.Limits.{max_depth, max_list, max_records, work_bytes}
use Rattle.image.specs.Room.{cap}
use Rattle.image.specs.Tree.{Tree}
use Rattle.plan.specs.Measure.{depth_t}
use Rattle.plan.specs.Syntax.{Expr, Plan, scan, filter, project, join, alias, union, distinct, sort, repartition, limit, aggregate, window}
use Rattle.acceptance.specs.NamesRule.{ok}
use Rattle.rewrite.specs.Utils.{split_conjunction, conjunction}
use Rattle.rewrite.specs.Limits.{list_p}
use Rattle.rewrite.specs.RewriteAt.{Focus, focus}
use Rattle.conjuncts.specs.Standing.{StandingP}
use Rattle.conjuncts.specs.Items.{Lists}
use Rattle.push_down_base.specs.Predicates.{Predicate}
use Rattle.push_down_base.specs.Arms.{Shaped}

-- ---- predicates

-- what is left of a predicate: nothing, and then no conjunct; or an expression
pub data Remains (s : List ℕ) (p : Predicate) : Option Expr → Type 0 where
  nothing : p.written ≡ None → p.list.len ≡ 0 → Remains s p none
  something : {e : Expr} → Shaped s p e → Remains s p (some e)

-- the code's predicate p is e, its conjuncts joined anew; perhaps there are too many of them
pub record Made (s : List ℕ) (p : Predicate) (e : Expr) : Type 0 where
  pub anew : p.written ≡ None
  pub listed : Lists s p.list (split_conjunction e)
  pub joined : conjunction (split_conjunction e) ≡ some e

-- p is some predicate
pub record Formed (s : List ℕ) (p : Predicate) : Type 0 where
  pub expr : Expr
  pub shaped : Shaped s p expr

-- ---- test 11

-- b says whether the plan fits of which n records were counted: there was room for them, and none is too deep
pub record Fitting (b : Bool) (out : List ℕ) (n : ℕ) : Type 0 where
  pub full : max_records < n → b ≡ false
  pub is : (t : Tree) (rest : List ℕ) → n ≡ cap (size_t t) → (n ≤ max_records → out ≡ flat 1 t ++ rest)
      → b ≡ (leb n max_records && leb (depth_t t) max_depth)

-- ---- plans

-- the plan w is the image's, keeps the name rules and has no list that is too long, and c is the plan at record `node` of it
pub record Inside (s : List ℕ) (node : ℕ) (w : Plan) (c : Focus) : Type 0 where
  pub short : length s ≤ work_bytes
  pub root : StandingP s 0 w
  pub rules : ok w ≡ true
  pub lists : list_p w ≤ max_list
  pub there : focus node w ≡ some c

-- a Filter stands at record x
pub record FilterAt (s : List ℕ) (x : ℕ) : Type 0 where
  pub expr : Expr
  pub plan : Plan
  pub standing : StandingP s x (filter expr plan)

-- a Filter stands at the start of `part`, which is record x of an image
pub record FilterIn (part : List ℕ) (x : ℕ) : Type 0 where
  pub image : List ℕ
  pub stretch : part ≡ drop (32 * x) image
  pub short : length image ≤ work_bytes
  pub there : FilterAt image x

-- the plan q is the input of the Filter at record x: it stands at record y, to which the link of the Filter's predicate leads
pub record FilterInput (s : List ℕ) (x y : ℕ) (q : Plan) : Type 0 where
  pub link : y ≡ word (drop (32 * (x + 1)) s) 28
  pub after : x ≤ y
  pub standing : StandingP s y q

-- a predicate that was merged can stand over the plan at record x, in the place of record `node` of the whole
pub record Mergeable (s : List ℕ) (node : ℕ) (p : Predicate) (x : ℕ) : Type 0 where
  pub whole : Plan
  pub spot : Focus
  pub inside : Inside s node whole spot
  pub expr : Expr
  pub made : Made s p expr
  pub plan : Plan
  pub standing : StandingP s x plan

-- a Filter stands at record `node` of the whole
pub record FilterInside (s : List ℕ) (node : ℕ) : Type 0 where
  pub whole : Plan
  pub spot : Focus
  pub inside : Inside s node whole spot
  pub expr : Expr
  pub plan : Plan
  pub is : spot.plan ≡ filter expr plan

-- the plan is a Filter
abbrev pub is_filter : Plan → Bool
is_filter (filter e p) = true
is_filter (scan t fs es) = false
is_filter (project es p) = false
is_filter (join k l r on f) = false
is_filter (alias q p) = false
is_filter (union ps) = false
is_filter (distinct p) = false
is_filter (sort f ks p) = false
is_filter (repartition p) = false
is_filter (limit n k p) = false
is_filter (aggregate gs ags p) = false
is_filter (window ws p) = false
