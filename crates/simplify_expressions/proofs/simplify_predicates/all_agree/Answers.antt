-- `simplify_predicates::all_agree` meets its contract.
use Rattle.std.proofs.Common.{refl, ◌∙◌, ◌-◌, drop, get_or, sym, true, false, arith, rules}
use Rattle.std.proofs.lemmas.Iterator.{cases_from_all, YieldsList-from_range}
use Rattle.plan.specs.Syntax.{Expr}
use Rattle.plan.proofs.Lists.{all_map}
use Rattle.meaning.specs.Meaning.{same_v}
use Rattle.rewrite.specs.SimplifyPredicates.{Side, val}
use Rattle.conjuncts.specs.Items.{FALSE}
use Rattle.conjuncts.proofs.Listed.{lists_length}
use Rattle.simplify_expressions.specs.Seen.{side_in}
use Rattle.simplify_expressions.proofs.Walks.{Gives, all_ranged}
use Rattle.simplify_expressions.proofs.simplify_predicates.all_agree.Goals as goal

pub returns : goal.returns
returns c =
    λ es h. let n = c.args.c.len - 1 in
    let g = λ (d : Side). same_v (val (side_in (get_or es 0 FALSE))) (val d) in
    let f = λ (e : Expr). g (side_in e) in
    all_ranged f FALSE es 1 n (omega (arith, c.requires.len_nonzero, lists_length h c.requires.known.most)) _
    (cases_from_all _ _ _ (Gives f FALSE es true) (Gives f FALSE es false) c.all.ensures.ran
    (YieldsList-from_range 1 c.args.c.len n refl (omega arith)) (λ i q k. search rules) (λ i q k. search rules))
    ∙ sym (all_map g side_in (drop 1 es))
