-- `schemas::all_single` meets its contract: an arm for each role.
use mathlib.Core.Path.{sym, ap, ◌∙◌}
use mathlib.Core.List.{[]}
use Rattle.check_names.specs.Singles.{all_of}
use Rattle.check_names.proofs.Telling.{first_fails, first_passes, whole_joins, whole_extends}
use Rattle.check_names.proofs.schemas.all_single.Goals as goal

pub returns-then-all_held : goal.returns-then-all_held
returns-then-all_held g c =
    c.all_held-then-all_held.ensures ∙ first_passes _ _ _ (sym c.all_held.ensures ∙ c.if-all_held.true)
    ∙ ap (all_of _) (whole_joins c.args.w c.in-Joins.is)

pub returns-else-all_held : goal.returns-else-all_held
returns-else-all_held g c =
    c.if-all_held.false ∙ first_fails _ _ _ (sym c.all_held.ensures ∙ c.if-all_held.false)
    ∙ ap (all_of _) (whole_joins c.args.w c.in-Joins.is)

pub returns-then-all_held-2 : goal.returns-then-all_held-2
returns-then-all_held-2 g c =
    c.all_made-then-all_held-2.ensures [] ∙ first_passes _ _ _ (sym c.all_held-in-Extends.ensures ∙ c.if-all_held-2.true)
    ∙ ap (all_of _) (whole_extends c.args.w c.in-Extends.is)

pub returns-else-all_held-2 : goal.returns-else-all_held-2
returns-else-all_held-2 g c =
    c.if-all_held-2.false ∙ first_fails _ _ _ (sym c.all_held-in-Extends.ensures ∙ c.if-all_held-2.false)
    ∙ ap (all_of _) (whole_extends c.args.w c.in-Extends.is)
