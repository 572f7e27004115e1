-- `simplify_predicates::bound_by` meets its contract.
use Rattle.plan.specs.Values.{literal?}
use Rattle.rewrite.specs.SimplifyPredicates.{make}
use Rattle.simplify_expressions.proofs.Comparing.{make_none, make_none₂}
use Rattle.simplify_expressions.proofs.simplify_predicates.bound_by.Goals as goal

pub returns-in_err-relation : goal.returns-in_err-relation
unfolding make
returns-in_err-relation c = rw (c.from_residual.ensures, ← c.relation_by.ensures, c.in_err-relation.was)

pub returns-in_err-column : goal.returns-in_err-column
returns-in_err-column c =
    rw (c.from_residual-in_err-column.ensures, ← c.extract_column_from_expr.ensures, c.in_err-column.was) (make_none₂ _ _ _)

pub returns-in_err-value : goal.returns-in_err-value
unfolding literal?
returns-in_err-value c = rw (c.from_residual-in_err-value.ensures, ← c.literal_of.ensures, c.in_err-value.was) (make_none _ _ _)

pub returns : goal.returns
unfolding make literal?
returns c =
    rw (
      ← c.relation_by.ensures,
      c.in_ok-relation.was,
      ← c.extract_column_from_expr.ensures,
      c.in_ok-column.was,
      ← c.literal_of.ensures,
      c.in_ok-value.was,
    )
