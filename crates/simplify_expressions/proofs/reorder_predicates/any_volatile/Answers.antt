-- `reorder_predicates::any_volatile` meets its contract.
use Rattle.std.proofs.Common.{refl, true, false, arith, rules}
use Rattle.std.proofs.lemmas.Iterator.{cases_from_any, YieldsList-from_range}
use Rattle.rewrite.specs.Utils.{is_volatile_expr}
use Rattle.conjuncts.specs.Items.{FALSE}
use Rattle.conjuncts.proofs.Listed.{lists_length}
use Rattle.simplify_expressions.proofs.Walks.{Gives, any_ranged}
use Rattle.simplify_expressions.proofs.reorder_predicates.any_volatile.Goals as goal

pub returns : goal.returns
returns c =
    λ es h. let n = c.args.c.len in
    any_ranged is_volatile_expr FALSE es 0 n (omega (arith, lists_length h c.requires.most)) _
    (cases_from_any _ _ _ (Gives is_volatile_expr FALSE es true) (Gives is_volatile_expr FALSE es false) c.any.ensures.ran
    (YieldsList-from_range 0 n n refl (omega arith)) (λ i q k. search rules) (λ i q k. search rules))
