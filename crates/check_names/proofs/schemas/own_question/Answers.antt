-- `schemas::own_question` meets its contract.
use mathlib.Core.Path.{◌≡◌, refl, sym, ◌∙◌}
use mathlib.Core.Bool.{true, false}
use Rattle.plan.specs.FieldSources.{renames}
use Rattle.plan.proofs.FieldSources.{is_renames}
use Rattle.check_names.proofs.schemas.own_question.Goals as goal

pub returns-then-eq : goal.returns-then-eq
returns-then-eq c =
    let e : renames c.args.role ≡ true = sym (is_renames c.args.role c.eq.ensures) ∙ c.if-eq.true in
    rw e refl

pub returns : goal.returns
returns c =
    let e : renames c.args.role ≡ false = sym (is_renames c.args.role c.eq.ensures) ∙ c.if-eq.false in
    rw e refl
