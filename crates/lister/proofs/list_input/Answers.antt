-- `list_input`: what is written is the text of what was read, and that is the text of the whole input.
use Rattle.std.proofs.Common.{arith, length-take-le}
use Rattle.lister.proofs.Input.{input_listed}
use Rattle.lister.proofs.list_input.Goals as goal

pub returns : goal.returns
returns g c =
    let read = c.in_ok-n.ensures in
    input_listed c.write_all.result _ _ _ _ _ _ read.bytes
    (λ h. read.end (omega (arith, h, length-take-le c.in_ok-n.n c.read_full.new.space read.count)))
    c.list-end.ensures.1 c.write_all.ensures.bytes
