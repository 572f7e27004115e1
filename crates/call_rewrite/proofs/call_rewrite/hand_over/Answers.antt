-- `call_rewrite::hand_over` meets its contract.
use Rattle.call_rewrite.proofs.Calls.{no_room, some_room}
use Rattle.call_rewrite.proofs.call_rewrite.hand_over.Goals as goal

pub returns-then-out-records : goal.returns-then-out-records
returns-then-out-records c =
    λ q h. no_room _ _ q h c.if-out-records.true

pub returns : goal.returns
returns c =
    λ q h. some_room _ _ q h c.if-out-records.false c.hand_out.ensures
