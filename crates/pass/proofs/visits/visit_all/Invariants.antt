-- `visits::visit_all` meets its contract. The loop's invariant: from where the walk stands, the pass comes to what it comes to from the start.
use mathlib.Core.Path.{◌≡◌}
use lib.ListN.{length}
use Rattle.plan.specs.Syntax.{Plan}
use Rattle.acceptance.specs.Accepted.{WellFormed}
use Rattle.rewrite.specs.Pass.{pass}
use Rattle.push_down_merge.specs.Lent.{SameSpace}
use Rattle.push_down_rewrite.specs.Outcomes.{Image}
use Rattle.pass.specs.Walks.{Going}
use Rattle.pass.proofs.visits.visit_all.Given as goal

abbrev pub invariant-loop-w : goal.invariant-loop-w
invariant-loop-w l =
    (length l.image ≡ length l.initial.image) × SameSpace l.initial.scratch l.scratch
    × ((q : Plan) → WellFormed q → Image l.initial.image l.records q → Going l.image l.w (pass l.budget q))

abbrev pub decreases-loop-w : goal.decreases-loop-w
decreases-loop-w l = l.w.left
