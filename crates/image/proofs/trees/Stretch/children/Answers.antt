-- `trees::children` meets its contract.
use mathlib.Core.Path.{refl}
use Rattle.image.specs.Places.{pos, start}
use Rattle.image.proofs.Subtrees.{below_linked, below_of, number_is}
use Rattle.image.proofs.trees.Stretch.children.Goals as goal

pub invariant_of-result : goal.invariant_of-result
invariant_of-result g c =
    let x = c.args.self in
    let t = x.stood.tree in
    let h = below_linked t x.image.now (start g.row.N x.base) (pos g.row.N x.base x.number) x.number (number_is x) x.stood.at in
    record { chained = record { forest = t.below; linked = rw (c.word_at.ensures.0, c.part.ensures) h } }

pub returns : goal.returns
returns g c = below_of refl refl (rw (c.word_at.ensures.0, c.part.ensures) refl)
