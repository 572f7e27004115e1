-- `trees::split_first` meets its contract.
use mathlib.Core.Path.{refl}
use native.Mathlib.Omega.{arith}
use Rattle.image.specs.Subtrees.{forest}
use Rattle.image.proofs.Subtrees.{ended, pos_is, split_of, turn}
use Rattle.image.proofs.trees.Stretches.split_first.Goals as goal

pub returns-then-self-eq0 : goal.returns-then-self-eq0
returns-then-self-eq0 g c = let x = c.args.self in ended (forest x) _ _ _ x.chained.linked c.if-self-eq0.true

pub invariant_of-tree : goal.invariant_of-tree
invariant_of-tree g c =
    let x = c.args.self in
    let u = turn (forest x) x.chained.linked c.if-self-eq0.false in
    record { past = omega (arith, u.past); stood = record { tree = u.child; at = rw (pos_is g.row.N x.base x.first) u.here } }

pub invariant_of-others : goal.invariant_of-others
invariant_of-others g c =
    let x = c.args.self in
    let u = turn (forest x) x.chained.linked c.if-self-eq0.false in
    record {
      chained = record { forest = u.after; linked = rw (c.word_at.ensures.0, c.part.ensures, pos_is g.row.N x.base x.first) u.next };
    }

pub returns : goal.returns
returns g c =
    let x = c.args.self in
    split_of c.if-self-eq0.false refl refl refl refl refl (rw (c.word_at.ensures.0, c.part.ensures, pos_is g.row.N x.base x.first) refl)
