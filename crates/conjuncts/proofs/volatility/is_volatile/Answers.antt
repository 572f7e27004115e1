-- `volatility::is_volatile` meets its contract.
use mathlib.Core.Path.{◌∙◌}
use Rattle.rewrite.specs.Utils.{any_fn}
use Rattle.conjuncts.proofs.FunctionsIn.{fn_tree}
use Rattle.conjuncts.proofs.Standing.{tree_found}
use Rattle.conjuncts.proofs.volatility.is_volatile.Goals as goal

pub returns-in-Some : goal.returns-in-Some
returns-in-Some c =
    λ e h. c.has_function.ensures ∙ rw (tree_found (c.in-Some.ensures e h)) (fn_tree _ _)

pub returns-in-None : goal.returns-in-None
unfolding any_fn
returns-in-None c = λ e h. rw (c.in-None.ensures e h)
