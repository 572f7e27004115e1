use Rattle.image.specs.Subtrees.{forest, tree_of}
use Rattle.image.proofs.Subtrees.{goes, gone}
use Rattle.utils.proofs.Making.{sum_next, sum_end}
use Rattle.utils.proofs.schema_columns.add_parts.Goals as goal

pub loop-part-preserved : goal.loop-part-preserved
loop-part-preserved g c =
    λ ns h. let g = goes c.loop-part.part-iterator c.next.new.self c.in-Some.part c.in-Some.ensures.steps in
    sum_next c.args.alias (tree_of c.in-Some.part) (forest c.next.new.self) (rw g.is at (c.loop-part.invariant ns h)) c.add_part.ensures

pub returns : goal.returns
returns g c =
    λ ns h. sum_end c.args.alias (rw (gone c.loop-part.part-iterator c.in-None.ensures.steps.0) at (c.loop-part.invariant ns h))
