-- What holds of a plan in its own place and is kept by every step up holds of what stands at a record.
use Prim.Native.Nat.{ℕ, ◌+◌}
use mathlib.Core.Path.{◌≡◌}
use mathlib.Core.Option.{some}
use Rattle.plan.specs.Syntax.{Plan, Plans}
use Rattle.rewrite.specs.RewriteAt.{Focus, focus}
use Rattle.writing.proofs.Focused.{Way, through_filter, through_project, through_left, through_right, through_alias, through_distinct, through_sort}
use Rattle.writing.proofs.Focused.{through_repartition, through_limit, through_aggregate, through_window, Place, one, all, Within, itself, below}
use Rattle.writing.proofs.Focused.{input, first, later, focus_within}
use Rattle.push_down_base.specs.Paths.{Ways}

module _ {P : ℕ → Plan → Plan → (Plan → Plan) → Type 0} {Q : ℕ → Plans → Plan → (Plan → Plans) → Type 0} (w : Ways P Q) where
  abbrev Holds : ℕ → Place → Type 0
  Holds n (one p c) = P n p c.plan c.back
  Holds n (all ps c) = Q n ps c.plan c.back

  -- one step up
  step : {k : ℕ} {f : Plan → Plan} → Way k f → (n : ℕ) (p t : Plan) (C : Plan → Plan) → P n p t C → P (k + n) (f p) t (λ q. f (C q))
  step (through_filter e) n p t C h = w.in_filter n p t C e h
  step (through_project es) n p t C h = w.in_project n p t C es h
  step (through_left k r on g) n p t C h = w.in_left n p t C k r on g h
  step (through_right k l on g) n p t C h = w.in_right n p t C k l on g h
  step (through_alias i) n p t C h = w.in_alias n p t C i h
  step through_distinct n p t C h = w.in_distinct n p t C h
  step (through_sort f ks) n p t C h = w.in_sort n p t C f ks h
  step through_repartition n p t C h = w.in_repartition n p t C h
  step (through_limit i j) n p t C h = w.in_limit n p t C i j h
  step (through_aggregate gs ags) n p t C h = w.in_aggregate n p t C gs ags h
  step (through_window ws) n p t C h = w.in_window n p t C ws h

  holds : {n : ℕ} {l : Place} → Within n l → Holds n l
  holds (itself p) = w.root p
  holds (below {m = m} {p = p} {c = c} s h) = step s m p c.plan c.back (holds h)
  holds (input {m = m} {ps = ps} {c = c} h) = w.in_union m ps c.plan c.back (holds h)
  holds (first {m = m} {p = p} {c = c} ps h) = w.in_first m p c.plan c.back ps (holds h)
  holds (later {m = m} {ps = ps} {c = c} p h) = w.in_later m ps c.plan c.back p (holds h)

  pub path_to : (n : ℕ) (p : Plan) (c : Focus) → focus n p ≡ some c → P n p c.plan c.back
  path_to n p c e = holds (focus_within p n c e)
