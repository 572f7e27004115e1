-- `equality::is_false_item` meets its contract.
use mathlib.Core.Path.{sym, ap, ◌∙◌}
use Rattle.image.specs.Tree.{Tree}
use Rattle.conjuncts.specs.Labels.{is_false}
use Rattle.conjuncts.proofs.Equals.{same_self, false_is}
use Rattle.conjuncts.proofs.Standing.{tree_found}
use Rattle.conjuncts.proofs.equality.is_false_item.Goals as goal

pub returns-in-Some : goal.returns-in-Some
returns-in-Some c =
    λ e h. ap is_false c.label-label.ensures.label
    ∙ (ap (λ (u : Tree). is_false u.label) (tree_found (c.in-Some.ensures e h)) ∙ false_is e)

pub returns-in-None : goal.returns-in-None
returns-in-None c = λ e h. rw (c.in-None.ensures e h) (sym (same_self _))
