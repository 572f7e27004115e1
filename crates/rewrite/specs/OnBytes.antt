-- The calls on bytes: for every slice, node or budget and output length, every field of the result and every byte of the output.
use Rattle.std.specs.Prelude.{ℕ, ◌-◌, ◌/◌, Bool, List, [], ◌++◌, eqb, length, replicate}
use Rattle.image.specs.Flat.{enc}
use Rattle.image.specs.Limits.{record_bytes}
use Rattle.plan.specs.Lists.{choose}
use Rattle.plan.specs.Syntax.{Plan, scan}
use Rattle.plan.specs.Trees.{bit_of, plan_tree}
use Rattle.plan.specs.Read.{plan_at}
use Rattle.acceptance.specs.Check.{Links, tree, broken, linked, Verdict, verdict, check}
use Rattle.plan.specs.Measure.{size_p}
use Rattle.rewrite.specs.RewriteAt.{Answer, granted, refused, rewrite_call}
use Rattle.rewrite.specs.Pass.{PassAnswer, passed, pass_refused, pass_call}

-- ---- images and plans

-- the bytes of a plan
abbrev pub image_of : Plan → List ℕ
image_of p = enc 0 (plan_tree p)

unfoldable pub plan_from_links : Links → Plan
plan_from_links (tree t) = plan_at t
plan_from_links (broken r) = scan 0 [] []

-- the plan that stands in the bytes; it is asked for only where they are accepted
unfoldable pub plan_in : List ℕ → Plan
plan_in s = plan_from_links (linked s (length s / record_bytes))

-- the image meets no test at the places Buffer to Type
unfoldable pub is_accepted : List ℕ → Bool
is_accepted s = eqb (check s).number 0

-- ---- the output: the answer, then zeros; all zeros where the call is refused

abbrev pub zeros : ℕ → List ℕ
zeros room = replicate room 0

unfoldable pub filled : ℕ → List ℕ → List ℕ
filled room s = s ++ zeros (room - length s)

-- ---- rewrite

-- what a call of rewrite gives: the fields of the result, and the whole output
pub record Rewritten : Type 0 where
  pub number : ℕ
  pub place : ℕ
  pub flag : ℕ
  pub records : ℕ
  pub output : List ℕ

unfoldable pub no_rewrite : ℕ → Verdict → Rewritten
no_rewrite room v = record { number = v.number; place = v.place; flag = 0; records = 0; output = zeros room }

unfoldable pub rewritten : ℕ → Answer → Rewritten
rewritten room (granted f q) = record { number = 0; place = 0; flag = bit_of f; records = size_p q; output = filled room (image_of q) }
rewritten room (refused k r) = no_rewrite room (verdict k r)

-- a call that asks something of the plan in the bytes: first the tests of the image, then what is asked (8, 11, 12)
unfoldable pub asked_of : (Plan → Answer) → ℕ → List ℕ → Rewritten
asked_of ask room s = choose (is_accepted s) (rewritten room (ask (plan_in s))) (no_rewrite room (check s))

-- push_down_filter_rewrite: the image, the node, the length of the output
unfoldable pub rewrite_bytes : List ℕ → ℕ → ℕ → Rewritten
rewrite_bytes s node room = asked_of (rewrite_call node room) room s

-- ---- the pass

pub record Passed : Type 0 where
  pub number : ℕ
  pub place : ℕ
  pub visits : ℕ
  pub changed : ℕ
  pub finished : ℕ
  pub records : ℕ
  pub output : List ℕ

unfoldable pub no_pass : ℕ → Verdict → Passed
no_pass room v =
    record { number = v.number; place = v.place; visits = 0; changed = 0; finished = 0; records = 0; output = zeros room }

unfoldable pub reported : ℕ → PassAnswer → Passed
reported room (passed v c f q) =
    record { number = 0; place = 0; visits = v; changed = c; finished = f; records = size_p q; output = filled room (image_of q) }
reported room (pass_refused k r) = no_pass room (verdict k r)

-- push_down_filter_pass: the image, the budget, the length of the output
unfoldable pub pass_bytes : List ℕ → ℕ → ℕ → Passed
pass_bytes s budget room = choose (is_accepted s) (reported room (pass_call budget room (plan_in s))) (no_pass room (check s))
