-- A pass preserves: it may stand in a list of steps beside calls of rewrite.
use Prim.Native.Nat.{ℕ, zero, suc, ◌+◌, ◌*◌, ◌<◌}
use native.Mathlib.Omega.{arith}
use mathlib.Core.Path.{◌≡◌, refl}
use mathlib.Core.Bool.{Bool, true, false}
use mathlib.Core.List.{List}
use mathlib.Core.Option.{Option, none, some}
use lib.Dec.{leb}
use borrow.Author.Tests.{le-leb, ne_eqb}
use Rattle.image.specs.Limits.{record_bytes, max_records, max_depth}
use Rattle.plan.specs.Lists.{choose}
use Rattle.plan.proofs.Lists.{and_r, and_intro}
use Rattle.plan.specs.Syntax.{Plan}
use Rattle.plan.specs.Measure.{size_p, depth_p}
use Rattle.plan.specs.Trees.{bit_of}
use Rattle.acceptance.specs.Accepted.{WellFormed}
use Rattle.rewrite.specs.Limits.{within_limits}
use Rattle.rewrite.specs.RewriteAt.{focus, Answer, granted, refused, rewrite_at}
use Rattle.rewrite.specs.Pass.{PassAnswer, passed, pass_refused, pass, pass_with_room, pass_call}
use Rattle.rewrite.specs.OnBytes.{plan_in, no_pass, reported, pass_bytes}
use Rattle.rewrite.proofs.AtRecord.{keeps_trans}
use Rattle.rewrite.proofs.Rewrite.{keeps_self}
use Rattle.rewrite.specs.PassByRecords.{plan_from, visits, pass_by_records}
use Rattle.rewrite.proofs.PassAgrees.{pass_agrees}
use Rattle.rewrite.proofs.PassKeeps as K
use Rattle.preservation.specs.Volatile.{NoVolatile}
use Rattle.preservation.specs.Statement.{leaves, Image, Preserved, Preserves, left_by_pass, pass_through}
use Rattle.preservation.proofs.Depth.{deep_enough}
use Rattle.preservation.proofs.FormTest.{formed_law}
use Rattle.preservation.proofs.Granted.{Granted, well_ok, granted_keeps}
use Rattle.preservation.proofs.Images.{stands, without_zeros}
use Rattle.preservation.proofs.Demand3.{numbered, preserved_self, preserved_granted, accepted_is}

-- a well-formed plan is within the limits of an answer
well_fits : (p : Plan) → WellFormed p → within_limits p ≡ true
unfolding within_limits size_p
well_fits p w =
    and_intro (le-leb (size_p p) max_records w.records)
    (and_intro (le-leb (depth_p p) max_depth (deep_enough p w.depth)) (and_r _ _ ((formed_law p).0 w.form)))

-- ---- a refused pass has a number

abbrev Numbered : PassAnswer → Type 0
Numbered (passed v c f q) = Unit {0}
Numbered (pass_refused k r) = 0 < k

visits_numbered : (b : ℕ) (o : Option ℕ) (p : Plan) (v c : ℕ) → Numbered (visits b o p v c)
unfolding visits rewrite_at
visits_numbered zero none p v c = tt
visits_numbered zero (some n) p v c = tt
visits_numbered (suc b) none p v c = tt
visits_numbered (suc b) (some n) p v c = go (rewrite_at n p) refl (λ o q v c. visits_numbered b o q v c)
  where
    go : (a : Answer) → rewrite_at n p ≡ a → ((o : Option ℕ) (q : Plan) (v c : ℕ) → Numbered (visits b o q v c))
        → Numbered (elim a as (λ x. PassAnswer)
        [ granted f q ↦ visits b (plan_from (suc n) q) q (v + 1) (c + bit_of f) | refused k r ↦ pass_refused k r ])
    go (granted f q) e ih = ih (plan_from (suc n) q) q (v + 1) (c + bit_of f)
    go (refused k r) e ih = numbered n (focus n p) k r e

room_numbered : (room : ℕ) (a : PassAnswer) → Numbered a → Numbered (pass_with_room room a)
unfolding pass_with_room choose
room_numbered room (pass_refused k r) h = h
room_numbered room (passed v c f q) h = go (leb (record_bytes * size_p q) room)
  where
    go : (b : Bool) → Numbered (choose b (passed v c f q) (pass_refused 12 0))
    go true = tt
    go false = omega arith

pass_numbered : (budget room : ℕ) (p : Plan) → WellFormed p → Numbered (pass_call budget room p)
unfolding pass_call pass_by_records
pass_numbered budget room p w =
    room_numbered room (pass budget p) (rw (pass_agrees budget p (well_fits p w)) (visits_numbered budget (some 0) p 0 0))

-- ---- the plan that a pass leaves

granted_self : (p : Plan) → WellFormed p × NoVolatile p → Granted p p
granted_self p g = record { keeps = keeps_self (well_ok p g.0); well = g.0; not_volatile = g.1 }

pass_granted : (budget room : ℕ) (p : Plan) → WellFormed p → NoVolatile p → Granted (K.left_by_pass p (pass_call budget room p)) p
pass_granted budget room p w v =
    K.pass_leaves (λ p. WellFormed p × NoVolatile p) Granted granted_self (λ q p g. (g.well, g.not_volatile))
    (λ r q p g h. record { keeps = keeps_trans g.keeps h.keeps; well = g.well; not_volatile = g.not_volatile })
    (λ n p g f q e. granted_keeps n p g.0 f q e g.1)
    budget room p (w, v)

-- ---- on bytes

left_preserves : (s : List ℕ) (room : ℕ) → Image s → NoVolatile (plan_in s) → (a : PassAnswer) → Numbered a
    → Granted (K.left_by_pass (plan_in s) a) (plan_in s) → Preserved s (left_by_pass s (reported room a))
unfolding leaves left_by_pass reported no_pass choose
left_preserves s room h v (passed n c f q) k g = rw (without_zeros room q) (preserved_granted s q g)
left_preserves s room h v (pass_refused k r) pos g = rw (ne_eqb k 0 (λ e. omega arith)) (preserved_self s h v)

-- a pass preserves, whatever its budget and output length
pub pass_preserves : (budget room : ℕ) → Preserves (pass_through budget room)
unfolding pass_through pass_bytes choose
pass_preserves budget room s h v =
    let w = (stands s h).well in
    rw (accepted_is s h)
    (left_preserves s room h v (pass_call budget room (plan_in s)) (pass_numbered budget room (plan_in s) w)
    (pass_granted budget room (plan_in s) w v))
