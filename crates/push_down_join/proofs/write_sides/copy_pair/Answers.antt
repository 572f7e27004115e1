use mathlib.Core.Path.{sym, ◌∙◌}
use borrow.Author.Tests.{eq-eqb, ne_eqb}
use lib.Dec.{eqb}
use Rattle.image.specs.Records.{recs}
use Rattle.image.specs.Subtrees.{tree_of}
use Rattle.push_down_base.proofs.WrittenRuns.{wrote_nothing, wrote_tree}
use Rattle.push_down_join.proofs.JoinParts.{wrote_when, wrote_unless}
use Rattle.push_down_join.proofs.write_sides.copy_pair.Goals as goal

pub returns-then-kind-eq-PAIR-clause-wrote : goal.returns-then-kind-eq-PAIR-clause-wrote
returns-then-kind-eq-PAIR-clause-wrote c =
    let t = tree_of c.args.part in
    wrote_when (eqb t.label.kind 50) (eq-eqb t.label.kind 50 (sym c.kind.ensures ∙ c.if-kind-eq-PAIR.true)) (wrote_tree c.copy_tree.ensures.wrote)

pub returns-else-kind-eq-PAIR-clause-wrote : goal.returns-else-kind-eq-PAIR-clause-wrote
returns-else-kind-eq-PAIR-clause-wrote c =
    let t = tree_of c.args.part in
    wrote_unless (eqb t.label.kind 50) (recs _ t) (ne_eqb t.label.kind 50 (λ z. c.if-kind-eq-PAIR.false (c.kind.ensures ∙ z)))
    (wrote_nothing c.put_nothing.ensures.bytes c.put_nothing.ensures.next)
