-- `schema_columns::add_parts` meets its contract. The loop's invariant: what was appended, and what the parts that are left make, is all.
use Rattle.std.proofs.Common.{List, ◌++◌}
use Rattle.image.specs.Subtrees.{forest, tree_of}
use Rattle.plan.specs.Syntax.{Name}
use Rattle.utils.specs.Fields.{Names}
use Rattle.utils.specs.Inputs.{called, made}
use Rattle.utils.proofs.Making.{Sum}
use Rattle.utils.proofs.schema_columns.add_parts.Given as goal

abbrev pub invariant-loop-part : goal.invariant-loop-part
invariant-loop-part g l =
    (ns : List Name) → Names l.fn.into ns
    → Sum l.into (called l.alias (made (forest l.part-iterator))) (ns ++ called l.alias (made (tree_of l.plan).below))
