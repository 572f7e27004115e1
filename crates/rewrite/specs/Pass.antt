-- The pass, an addition to the source (docs/REWRITE.md, The pass): it visits the root, rewrites it, then visits likewise, in order, the
-- plans among the children of what stands there now. Each visit is one unit of the caller's budget. It reports visits, flags raised, and
-- finished 1, or 0 if nodes remain. A refused rewrite refuses the whole pass, with its record in the plan as it then stood.
use Rattle.std.specs.Prelude.{ℕ, zero, suc, ◌+◌, ◌*◌, leb}
use Rattle.std.proofs.Math.Option as O
use Rattle.std.proofs.Math.Option.{Option, some}
use Rattle.image.specs.Limits.{max_depth, record_bytes}
use Rattle.image.specs.Tree.{Forest, none, node, size}
use Rattle.plan.specs.Lists.{choose}
use Rattle.plan.specs.Syntax.{Plan}
use Rattle.plan.specs.Measure.{size_p}
use Rattle.plan.specs.Kinds.{is_plan}
use Rattle.plan.specs.Trees.{bit_of, kids_p}
use Rattle.rewrite.specs.RewriteAt.{Focus, focus, granted, refused, rewrite_at}

-- ---- the plans among the children of a plan

-- how many of these trees are plans
unfoldable pub plans : Forest → ℕ
plans none = 0
plans (node l cs ns) = bit_of (is_plan l) + plans ns

-- how many records stand before the first of them
unfoldable pub before_plans : Forest → ℕ
before_plans none = 0
before_plans (node l cs ns) = choose (is_plan l) 0 (suc (size cs) + before_plans ns)

-- how many of a plan's children are plans; they stand side by side
unfoldable pub inputs : Plan → ℕ
inputs p = plans (kids_p p)

-- how far behind the plan's own record the first of them stands
unfoldable pub first_input : Plan → ℕ
first_input p = suc (before_plans (kids_p p))

-- a number of the plan that stands at a record, 0 where none stands
abbrev pub of_focus : (Plan → ℕ) → Option Focus → ℕ
of_focus f O.none = 0
of_focus f (some c) = f c.plan

-- the same by the record's number
abbrev pub at_record : (Plan → ℕ) → ℕ → Plan → ℕ
at_record f n p = of_focus f (focus n p)

-- ---- the walk

-- it goes on, with the plan as it stands, what is left of the budget, visits and flags raised;
-- or it has spent the budget with nodes left; or a rewrite was refused, with a number and a record
pub data Walk : Type 0 where
  walking : Plan → ℕ → ℕ → ℕ → Walk
  spent : Plan → ℕ → ℕ → Walk
  failed : ℕ → ℕ → Walk

-- a walk, and what is done where it goes on
abbrev pub and_then : Walk → (Plan → ℕ → ℕ → ℕ → Walk) → Walk
and_then (walking p b v c) f = f p b v c
and_then (spent p v c) f = spent p v c
and_then (failed k r) f = failed k r

-- `m` plans side by side, the first at record `n`: each is visited where it stands once the ones before it are done
unfoldable pub each_input : (ℕ → Plan → ℕ → ℕ → ℕ → Walk) → ℕ → ℕ → Plan → ℕ → ℕ → ℕ → Walk
each_input visit zero n p b v c = walking p b v c
each_input visit (suc m) n p b v c = and_then (visit n p b v c) (λ q b v c. each_input visit m (n + at_record size_p n q) q b v c)

-- The plan at record `n` is rewritten, then its inputs are visited. `depth` levels may still follow; as test 11 holds of the plan after
-- every rewrite, a pass that begins with `max_depth` of them, over a plan within the limits, never comes to the first clause. That is
-- `pass_agrees` (proofs/PassAgrees.antt): the pass by records, which has no such clause, answers the same, so a refusal is a rewrite's.
unfoldable pub visit : ℕ → ℕ → Plan → ℕ → ℕ → ℕ → Walk
visit zero n p b v c = failed 0 n
visit (suc depth) n p zero v c = spent p v c
visit (suc depth) n p (suc b) v c =
    elim (rewrite_at n p) [
      | granted f q ↦ each_input (visit depth) (at_record inputs n q) (n + at_record first_input n q) q b (v + 1) (c + bit_of f)
      | refused k r ↦ failed k r
    ]

-- ---- the call `pass`

-- visits, flags raised, finished, and the plan; or a refusal
pub data PassAnswer : Type 0 where
  passed : ℕ → ℕ → ℕ → Plan → PassAnswer
  pass_refused : ℕ → ℕ → PassAnswer

-- visits, flags raised, and finished 1, or 0 if nodes remain
abbrev pub report : Walk → PassAnswer
report (walking p b v c) = passed v c 1 p
report (spent p v c) = passed v c 0 p
report (failed k r) = pass_refused k r

-- the pass begins at the root, which is record 0
unfoldable pub pass : ℕ → Plan → PassAnswer
pass budget p = report (visit max_depth 0 p budget 0 0)

-- test 12, once, on the final plan
unfoldable pub pass_with_room : ℕ → PassAnswer → PassAnswer
pass_with_room room (pass_refused k r) = pass_refused k r
pass_with_room room (passed v c f q) = choose (leb (record_bytes * size_p q) room) (passed v c f q) (pass_refused 12 0)

-- a call: the budget and the length of the output in bytes
unfoldable pub pass_call : ℕ → ℕ → Plan → PassAnswer
pass_call budget room p = pass_with_room room (pass budget p)
