-- Records that the code tells apart by their labels.
use Rattle.std.specs.Prelude.{Bool, true, ◌&&◌, not, eqb}
use Rattle.image.specs.Tree.{Label}
use Rattle.plan.specs.Kinds.{Binary, Boolean, number_e}
use Rattle.plan.specs.Syntax.{and}
use Rattle.plan.specs.Trees.{bit_of, op_number}

abbrev pub is_and : Label → Bool
is_and l = eqb l.kind (number_e Binary) && eqb l.p (op_number and)

abbrev pub is_false : Label → Bool
is_false l = eqb l.kind (number_e Boolean) && not (eqb l.p (bit_of true))
