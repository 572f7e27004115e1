-- `stays::over_projection_stays` meets its contract.
use mathlib.Core.Path.{sym}
use Rattle.plan.specs.Syntax.{project}
use Rattle.conjuncts.proofs.Listed.{lists_length}
use Rattle.push_down_stays.proofs.Stayings.{project_kept?}
use Rattle.push_down_stays.proofs.stays.over_projection_stays.Goals as goal

pub returns : goal.returns
returns c =
    λ e es q h. let d = c.divide-d.ensures e (project es q) h in
    project_kept? e es q (sym (lists_length d.moved d.moved_most))
