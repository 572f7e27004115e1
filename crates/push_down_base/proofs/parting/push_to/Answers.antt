use Rattle.plan.specs.Schema.{has}
use Rattle.push_down_base.proofs.Selecting.{push_open, push_shut, stay_open, stay_shut}
use Rattle.push_down_base.proofs.Scoping.{reads_keep, reads_none}
use Rattle.push_down_base.proofs.parting.push_to.Goals as goal

pub returns-then-preserved : goal.returns-then-preserved
returns-then-preserved c =
    λ es ns names h k m. let t = c.if-preserved.true in
    let w = c.select_side.ensures es ns (has names) h.lists k h.over m in
    (rw (push_open _ names es t) (reads_keep _ h w.0), rw (stay_open _ names es t) (reads_keep _ h w.1))

pub returns : goal.returns
returns c =
    λ es ns names h k m. let f = c.if-preserved.false in
    (rw (push_shut _ names es f) (reads_none c.empty.ensures), rw (stay_shut _ names es f) h)
