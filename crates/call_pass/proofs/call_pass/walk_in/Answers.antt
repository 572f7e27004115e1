-- `call_pass::walk_in` meets its contract.
use native.Mathlib.Omega.{arith}
use Rattle.call_pass.proofs.Reports.{short, copied}
use Rattle.call_pass.proofs.call_pass.walk_in.Goals as goal

pub copy_bytes-requires : goal.copy_bytes-requires
copy_bytes-requires c =
    (omega arith, omega (arith, short c.requires.whole, c.requires.a_len))

pub visit_all-requires-clause-begins : goal.visit_all-requires-clause-begins
visit_all-requires-clause-begins c =
    let w = c.requires.whole in record { plan = _; well = w.accepted.well; image = copied w c.copy_bytes.ensures }

pub returns : goal.returns
returns c =
    let w = c.requires.whole in
    c.visit_all.ensures.ends _ w.accepted.well (copied w c.copy_bytes.ensures)
