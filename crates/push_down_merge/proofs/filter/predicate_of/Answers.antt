-- `filter::predicate_of` meets its contract.
use native.Mathlib.Omega.{arith}
use Rattle.writing.proofs.Maps.{stood_expr}
use Rattle.push_down_base.proofs.Steps.{filter_predicate}
use Rattle.push_down_merge.proofs.filter.predicate_of.Goals as goal

pub invariant_of-result : goal.invariant_of-result
invariant_of-result c =
    record { past = omega arith; stood = stood_expr (filter_predicate c.requires.short c.requires.here.standing) }
