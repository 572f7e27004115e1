use mathlib.Core.List.{append-nil}
use Rattle.push_down_join.proofs.Siding.{append_step, append_end}
use Rattle.push_down_join.proofs.push_down_all_join.append.Goals as goal

pub loop-n-init : goal.loop-n-init
loop-n-init c = λ xs ys h k. rw (append-nil xs) h

pub loop-n-preserved : goal.loop-n-preserved
loop-n-preserved c =
    λ xs ys h k.
    rw (← append_step k c.requires.0.most c.items-n-items.ensures c.loop-n.n-index c.args.more c.from.result xs c.loop-n-test.true c.from.ensures)
    (c.add-r.ensures _ (c.loop-n.invariant xs ys h k))

pub returns : goal.returns
returns c =
    λ xs ys h k. rw (append_end k c.requires.0.most c.items-n-items.ensures c.loop-n.n-index c.loop-n-test.false) at (c.loop-n.invariant xs ys h k)
