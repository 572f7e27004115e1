use native.Mathlib.Omega.{arith}
use Rattle.check_types.proofs.ByPlacing.{other_width, other_type, same_all}
use Rattle.check_types.proofs.places.same_fields.Goals as goal

pub returns-then-width-held_in : goal.returns-then-width-held_in
returns-then-width-held_in g c = other_width _ _ c.held_in-width.ensures c.held_in.ensures c.if-width-held_in.true

pub returns-then-place_type : goal.returns-then-place_type
returns-then-place_type g c = other_type _ _ _ c.place_type.ensures c.place_type-in-loop-k.ensures c.if-place_type.true

pub returns : goal.returns
returns g c = same_all _ _ c.held_in-width.ensures c.held_in.ensures c.if-width-held_in.false (λ k l. c.loop-k.invariant k (omega arith))
