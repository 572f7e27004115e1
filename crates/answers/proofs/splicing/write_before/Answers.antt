-- `splicing::write_before` meets its contract.
use mathlib.Core.Path.{◌≡◌, ap, subst, ◌∙◌}
use Prim.Native.Nat.{◌+◌, ◌-◌, ◌≤◌}
use native.Mathlib.Omega.{arith}
use Rattle.image.specs.Limits.{max_records}
use Rattle.image.specs.Room.{cap}
use Rattle.image.specs.Tree.{Tree}
use Rattle.image.specs.Flat.{size_t}
use Rattle.image.proofs.Room.{cap_is}
use Rattle.image.specs.Chains.{only}
use Rattle.plan.specs.Trees.{plan_tree}
use Rattle.answers.proofs.Splice.{before_of, node_small}
use Rattle.answers.proofs.Roots.{end_of}
use Rattle.answers.proofs.splicing.write_before.Goals as goal

pub returns-clause-next : goal.returns-clause-next
returns-clause-next c =
    let z : c.args.out.now.next + (c.args.node - 0) ≡ c.args.node = omega (arith, c.requires.start.0) in
    c.write_records.ensures.next ∙ ap cap z ∙ cap_is _ (omega (arith, c.requires.there_p.standing.small))

pub returns-clause-before : goal.returns-clause-before
returns-clause-before c =
    λ p f h e k. let few = subst (λ (t : Tree). size_t t ≤ max_records) (only c.requires.sized.at h.here) c.requires.sized.few in
    let n = c.note_levels-records.ensures (plan_tree p) h.here in
    let w = c.write_records.ensures.ran (plan_tree p) h.here few
    (omega (arith, node_small p _ f e)) n.1 in
    before_of p _ f e few c.args.out.now.long (rw c.requires.start.0 at w) n.1 c.wide.ensures.0
    (end_of c.at.result (plan_tree f.plan) k.here c.at.ensures.same_image c.at.ensures.same_number c.end.ensures) n.0
