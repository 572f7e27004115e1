-- `schemas::all_made` meets its contract. The loop's invariant: the parts so far are told apart.
use mathlib.Core.Path.{◌≡◌}
use Rattle.image.specs.Subtrees.{forest}
use Rattle.check_fields.specs.Fields.{Schema, made}
use Rattle.check_names.specs.Singles.{all_of, lone, own_question, whole_of}
use Rattle.check_names.proofs.schemas.all_made.Given as goal

abbrev pub invariant-loop-part : goal.invariant-loop-part
invariant-loop-part g l =
    (c : Schema) → all_of (lone (whole_of l.w) (own_question l.w.role) l.to) (made c (forest l.parts))
    ≡ all_of (lone (whole_of l.w) (own_question l.w.role) l.to) (made c (forest l.part-iterator))
