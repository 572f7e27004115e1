-- `visits::visit` meets its contract.
use native.Mathlib.Omega.{arith}
use lib.ListN.{length-take}
use Rattle.push_down_merge.proofs.Tested.{stood_inside}
use Rattle.pass.proofs.Steps.{came_to, found_next, room_there, unwritten, visited_refused}
use Rattle.pass.proofs.visits.visit.Goals as goal

pub overflow_mul-end : goal.overflow_mul-end
overflow_mul-end c =
    omega (arith, room_there c.requires.standing, c.requires.image_len)

pub slice_bounds-plan-end : goal.slice_bounds-plan-end
slice_bounds-plan-end c =
    room_there c.requires.standing

pub slice_bounds-plan-end-2 : goal.slice_bounds-plan-end-2
slice_bounds-plan-end-2 c =
    rw length-take (omega (arith, room_there c.requires.standing))

pub invariant_of-plan : goal.invariant_of-plan
invariant_of-plan c =
    record { past = omega arith; stood = stood_inside (found_next c.requires.standing c.requires.next_lt_records.0).inside }

pub rewrite-requires : goal.rewrite-requires
rewrite-requires c =
    found_next c.requires.standing c.requires.next_lt_records.0

pub take_over-requires-clause-comes : goal.take_over-requires-clause-comes
take_over-requires-clause-comes c =
    let k = came_to c.requires.standing.stands c.requires.next_lt_records.0 c.requires.next_lt_records.1 c.in-Ok.ensures.outcomes in
    record { plan = c.requires.standing.plan; came = k }

pub returns-in-Ok-clause-visited : goal.returns-in-Ok-clause-visited
returns-in-Ok-clause-visited c =
    λ q h. c.take_over.ensures.1 q (came_to h c.requires.next_lt_records.0 c.requires.next_lt_records.1 c.in-Ok.ensures.outcomes)

pub returns-in-Ok-clause-same : goal.returns-in-Ok-clause-same
returns-in-Ok-clause-same c =
    λ q f h e a. c.take_over.ensures.2 (unwritten _ h c.in-Ok.ensures.changes e a)

pub returns-in-Err-clause-visited : goal.returns-in-Err-clause-visited
returns-in-Err-clause-visited c =
    λ q h. visited_refused (came_to h c.requires.next_lt_records.0 c.requires.next_lt_records.1 c.in-Err.ensures.outcomes)
