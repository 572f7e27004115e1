-- `filter::predicate_at` meets its contract.
use native.Mathlib.Omega.{arith}
use Rattle.conjuncts.proofs.Listed.{lists_none}
use Rattle.writing.proofs.Maps.{expr_is}
use Rattle.push_down_merge.proofs.Merges.{shaped_written}
use Rattle.push_down_merge.proofs.filter.predicate_at.Goals as goal

pub split_conjunction-requires : goal.split_conjunction-requires
split_conjunction-requires c =
    let p = c.requires in
    let x = c.args.predicate in
    (omega arith, (record { expr = p.there.expr; is = expr_is x p.there.standing }, (p.number_nonzero, p.short)))

pub returns : goal.returns
returns c =
    λ e h few. shaped_written c.requires.number_nonzero h
    (c.split_conjunction.ensures _ e _ (expr_is c.args.predicate h) h (lists_none c.empty.ensures)) few
