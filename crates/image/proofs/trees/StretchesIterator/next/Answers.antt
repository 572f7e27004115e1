-- `trees::next` meets its contract.
use Rattle.std.proofs.Common.{ap, length, rules}
use Rattle.image.proofs.Subtrees.{places_end, places_step}
use Rattle.image.proofs.trees.StretchesIterator.next.Goals as goal

pub returns-in_err-tree-clause-steps : goal.returns-in_err-tree-clause-steps
returns-in_err-tree-clause-steps g c =
    let none = places_end c.args.self.now c.in_err-tree.ensures in rw c.from_residual.ensures (none, none)

pub returns-clause-steps : goal.returns-clause-steps
returns-clause-steps g c = places_step c.in_ok-tree.ensures

pub returns-clause-goes : goal.returns-clause-goes
returns-clause-goes g c =
    let shorter = ap length (places_step c.in_ok-tree.ensures) in search rules
