-- `trees::position` meets its contract.
use mathlib.Core.Path.{sym}
use native.Mathlib.Omega.{arith}
use Rattle.image.proofs.Subtrees.{pos_is, pos_none, start_some}
use Rattle.image.proofs.trees.position.Goals as goal

pub returns-then-this-eq0 : goal.returns-then-this-eq0
returns-then-this-eq0 g c = sym (pos_none g.row.N c.args.base c.args.number c.if-this-eq0.true)

pub returns : goal.returns
returns g c = omega (arith, pos_is g.row.N c.args.base c.args.number, start_some g.row.N c.args.base c.if-this-eq0.false)
