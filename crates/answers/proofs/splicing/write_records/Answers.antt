use mathlib.Core.Path.{◌≡◌, sym, ap, ◌∙◌}
use Prim.Native.Nat.{◌+◌, ◌-◌}
use native.Mathlib.Omega.{arith}
use Rattle.image.specs.Room.{cap}
use Rattle.image.proofs.Room.{cap_add, cap_is, cap_le}
use Rattle.answers.proofs.Whole.{run_start, run_next, run_end}
use Rattle.answers.proofs.splicing.write_records.Goals as goal

pub loop-number-init : goal.loop-number-init
loop-number-init c =
    let none = c.put_nothing.ensures in (
      none.same,
      rw none.next (cap_le c.args.out.now.next),
      rw none.next (cap_add c.args.out.now.next (c.args.n - c.args.from)),
      λ t h f e l. run_start c.args.out.now.long none.bytes none.next,
    )

pub loop-number-preserved : goal.loop-number-preserved
loop-number-preserved c =
    let k = c.loop-number.invariant in
    let put = c.put.ensures.put in (
      c.put.ensures.same ∙ k.0,
      rw put.next (cap_le (c.loop-number.out.next + 1)),
      rw (put.next, cap_add) (ap cap (omega arith) ∙ k.2),
      λ t h f e l.
          run_next h f e c.loop-number-test.true c.loop-number.out.long l
          c.wide.ensures.0 (rw (c.label_at.ensures.0, c.record_at.ensures) at put)
          (k.3 t h f e l),
    )

pub returns-clause-next : goal.returns-clause-next
returns-clause-next c =
    let k = c.loop-number.invariant in
    let z : c.loop-number.out.next + (c.args.n - c.loop-number.number) ≡ c.loop-number.out.next = omega arith in
    sym (ap cap z ∙ cap_is _ k.1) ∙ k.2

pub returns-clause-ran : goal.returns-clause-ran
returns-clause-ran c =
    λ t h f e l. let k = c.loop-number.invariant in run_end e (omega arith) k.1 (k.3 t h f e l)
