-- `table_scan::write_scan` meets its contract.
use native.Mathlib.Omega.{arith}
use Rattle.writing.proofs.Maps.{deep_low, plan_deep, plan_is}
use Rattle.push_down_arms.proofs.Supported.{scan_few}
use Rattle.push_down_arms.proofs.Scans.{scan_wrote}
use Rattle.push_down_arms.proofs.table_scan.write_scan.Goals as goal

pub overflow_add-plan-2 : goal.overflow_add-plan-2
overflow_add-plan-2 c =
    let p = c.requires.some_scan.0 in omega (arith, p.placed.standing.small, p.count, scan_few p.placed)

pub copy_some-requires : goal.copy_some-requires
copy_some-requires c =
    (omega arith, deep_low _ (omega (arith, c.requires.shallow)) (plan_deep c.args.plan c.requires.some_scan.0.placed.standing))

pub returns-clause-wrote : goal.returns-clause-wrote
returns-clause-wrote c =
    λ t fs es ys h k l. let w = rw (plan_is c.args.plan h.standing) at c.copy_some.ensures.wrote in
    scan_wrote _ _ t fs es ys c.args.out.now.long k w (c.copy_items.ensures.wrote ys l)
