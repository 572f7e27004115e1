-- `visits::take_over` meets its contract.
use Rattle.std.proofs.Common.{refl, sym, arith}
use Rattle.plan.proofs.Bools.{no_yes}
use Rattle.pass.proofs.Steps.{next_well, next_image, same_image, visited_granted, room_here, room_written, next_few}
use Rattle.pass.proofs.visits.take_over.Goals as goal

pub overflow_mul-records : goal.overflow_mul-records
overflow_mul-records c =
    omega (arith, room_written c.requires.comes c.in-Some.is, c.requires.work_len)

pub copy_bytes-requires : goal.copy_bytes-requires
copy_bytes-requires c =
    let k = room_written c.requires.comes c.in-Some.is in (k, omega (arith, k, c.requires.work_len))

pub go_on-requires-clause-records_in_bounds : goal.go_on-requires-clause-records_in_bounds
go_on-requires-clause-records_in_bounds c =
    let k = room_written c.requires.comes c.in-Some.is in (
      omega (arith, k, c.copy_bytes.auto.to, c.requires.work_len),
      omega (arith, c.copy_bytes.auto.to, c.requires.work_len),
      next_few c.requires.comes c.requires.work_len.1,
    )

pub go_on-requires-in-None-clause-records_in_bounds : goal.go_on-requires-in-None-clause-records_in_bounds
go_on-requires-in-None-clause-records_in_bounds c =
    (room_here c.requires.comes, c.requires.work_len.1, next_few c.requires.comes c.requires.work_len.1)

pub returns-in-Some : goal.returns-in-Some
returns-in-Some c = (
  c.go_on.ensures.0,
  λ q k. visited_granted k (c.go_on.ensures.1 _ (next_well k) (next_image k c.in-Some.is c.copy_bytes.ensures)),
  λ n. no_yes (sym (rw c.in-Some.is at n)),
)

pub returns-in-None : goal.returns-in-None
returns-in-None c = (
  c.go_on-in-None.ensures.0,
  λ q k. visited_granted k (c.go_on-in-None.ensures.1 _ (next_well k) (same_image k c.in-None.is)),
  λ n. refl,
)
