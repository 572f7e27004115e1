use mathlib.Core.Path.{sym, ◌∙◌}
use Rattle.image.specs.Subtrees.{tree_of}
use Rattle.utils.specs.Fields.{named}
use Rattle.push_down_join.proofs.Partnering.{key_none, key_is, few_pair, two_pair}
use Rattle.push_down_join.proofs.infer_join_predicates.partner_in.Goals as goal

pub returns-then-kind-ne-PAIR : goal.returns-then-kind-ne-PAIR
returns-then-kind-ne-PAIR g c =
    let t = tree_of c.args.part in
    sym (key_none (named c.args.x) t.label t.below (λ e. c.if-kind-ne-PAIR.true (c.kind.ensures ∙ e)))

pub returns-in_err-left : goal.returns-in_err-left
returns-in_err-left g c =
    let t = tree_of c.args.part in
    rw c.from_residual.ensures
    (sym (key_is (named c.args.x) t.label t.below (sym c.kind.ensures ∙ c.if-kind-ne-PAIR.false)
    ∙ few_pair (named c.args.x) t.below c.in_err-left.ensures))

pub returns : goal.returns
returns g c =
    let t = tree_of c.args.part in
    let pair =
    key_is (named c.args.x) t.label t.below (sym c.kind.ensures ∙ c.if-kind-ne-PAIR.false)
    ∙ two_pair (named c.args.x) c.in_ok-left.ensures in
    rw (pair, ← c.as_column.ensures, ← c.as_column-2.ensures) c.pair_of.ensures
