use native.Mathlib.Omega.{arith}
use Rattle.plan.specs.Syntax.{col}
use Rattle.conjuncts.proofs.Listed.{lists_length}
use Rattle.writing.proofs.Pushing.{pushes_of}
use Rattle.push_down_base.proofs.WrittenRuns.{wrote_nothing}
use Rattle.push_down_join.proofs.JoinParts.{conditions_none, conditions_some}
use Rattle.push_down_join.proofs.write_sides.copy_conditions.Goals as goal

pub copy_joined-requires : goal.copy_joined-requires
copy_joined-requires c =
    (omega arith, (record { mapping = λ x. col x; exprs = c.requires.known.exprs; pushes = pushes_of c.requires.known.lists; most = c.requires.known.most }, (omega arith, c.requires.over)))

pub returns-then-c-ne0-clause-wrote : goal.returns-then-c-ne0-clause-wrote
returns-then-c-ne0-clause-wrote c =
    λ σ m es h. conditions_some es (λ z. omega (arith, lists_length h c.requires.known.most, c.if-c-ne0.true))
    (λ e rest same. c.copy_joined.ensures.wrote σ m e rest (pushes_of (rw same at h)))

pub returns-else-c-ne0-clause-wrote : goal.returns-else-c-ne0-clause-wrote
returns-else-c-ne0-clause-wrote c =
    λ σ m es h. conditions_none _ es (omega (arith, lists_length h c.requires.known.most, c.if-c-ne0.false))
    (wrote_nothing c.put_nothing.ensures.bytes c.put_nothing.ensures.next)
