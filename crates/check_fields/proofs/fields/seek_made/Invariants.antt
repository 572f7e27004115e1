-- `fields::seek_made` meets its contract. The loop's invariant: what is sought of all parts is what is sought of those still to come.
use Rattle.image.specs.Subtrees.{forest}
use Rattle.check_fields.proofs.Seeking.{Made}
use Rattle.check_fields.proofs.fields.seek_made.Given as goal

abbrev pub invariant-loop-part : goal.invariant-loop-part
invariant-loop-part g l = Made l.asks l.k l.left (forest l.parts) (forest l.part-iterator)
