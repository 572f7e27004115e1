-- `simplify_predicates::all_of_kind` meets its contract.
use Rattle.std.proofs.Common.{refl, ◌∙◌, sym, true, false, arith, rules}
use Rattle.std.proofs.lemmas.Iterator.{cases_from_all, YieldsList-from_range}
use Rattle.plan.specs.Syntax.{Expr}
use Rattle.plan.proofs.Lists.{all_map}
use Rattle.rewrite.specs.SimplifyPredicates.{of_kind}
use Rattle.conjuncts.specs.Items.{FALSE}
use Rattle.conjuncts.proofs.Listed.{lists_length}
use Rattle.simplify_expressions.specs.Seen.{side_in}
use Rattle.simplify_expressions.proofs.Walks.{Gives, all_ranged}
use Rattle.simplify_expressions.proofs.simplify_predicates.all_of_kind.Goals as goal

pub returns : goal.returns
returns c =
    λ es h. let n = c.args.c.len in
    let f = λ (e : Expr). of_kind c.args.kind (side_in e) in
    all_ranged f FALSE es 0 n (omega (arith, lists_length h c.requires.most)) _
    (cases_from_all _ _ _ (Gives f FALSE es true) (Gives f FALSE es false) c.all.ensures.ran
    (YieldsList-from_range 0 n n refl (omega arith)) (λ i q k. search rules) (λ i q k. search rules))
    ∙ sym (all_map (of_kind c.args.kind) side_in es)
