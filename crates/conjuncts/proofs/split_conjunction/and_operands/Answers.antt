-- `split_conjunction::and_operands` meets its contract.
use Rattle.conjuncts.proofs.Operands.{and_below, two_of}
use Rattle.conjuncts.proofs.split_conjunction.and_operands.Goals as goal

pub returns-in_err-left : goal.returns-in_err-left
returns-in_err-left g c =
    let p = and_below c.args.tree c.requires (rw c.label-label.ensures.label at c.if-not-label.false) in
    let z : ⊥ = cc (p.is, c.children.ensures.is, c.in_err-left.ensures) in
    absurd z

pub returns-in_err-right : goal.returns-in_err-right
returns-in_err-right g c =
    let p = and_below c.args.tree c.requires (rw c.label-label.ensures.label at c.if-not-label.false) in
    let z : ⊥ = cc (p.is, c.children.ensures.is, c.in_ok-left.ensures.is, c.in_err-right.ensures) in
    absurd z

pub returns : goal.returns
returns g c =
    let y = rw c.label-label.ensures.label at c.if-not-label.false in
    (y, two_of (and_below c.args.tree c.requires y) c.children.ensures c.in_ok-left.ensures c.in_ok-right.ensures)
