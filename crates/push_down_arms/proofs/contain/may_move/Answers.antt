use mathlib.Core.Path.{sym, ◌∙◌}
use Rattle.image.specs.Subtrees.{tree_of}
use Rattle.push_down_arms.proofs.Moves.{move_group, move_other, some_found}
use Rattle.push_down_arms.proofs.contain.may_move.Goals as goal

pub returns-then-kind-eq-AGGREGATE : goal.returns-then-kind-eq-AGGREGATE
returns-then-kind-eq-AGGREGATE g c =
    c.is_some.ensures ∙ some_found c.args.plan _ _ (rw (c.wide.ensures.0, c.wide-then-kind-eq-AGGREGATE.ensures.0) at c.find.ensures)
    ∙ sym (move_group _ (tree_of c.args.plan) (sym c.kind.ensures ∙ c.if-kind-eq-AGGREGATE.true))

pub returns : goal.returns
returns g c =
    c.all_let_pass.ensures ∙ sym (move_other _ (tree_of c.args.plan) (λ z. c.if-kind-eq-AGGREGATE.false (c.kind.ensures ∙ z)))
