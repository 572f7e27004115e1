-- `simplify_predicates::simplify_column_predicates` meets its contract.
use native.Mathlib.Omega.{arith}
use Rattle.plan.specs.Syntax.{nm}
use Rattle.rewrite.specs.SimplifyPredicates.{up_expr, down_expr}
use Rattle.conjuncts.proofs.Listed.{lists_none, lists_length}
use Rattle.simplify_expressions.specs.Classes.{of_class}
use Rattle.simplify_expressions.specs.declared.simplify_predicates.Class.TheVariants.{Equality, Lower, Upper}
use Rattle.simplify_expressions.proofs.Classed.{eqs_spelled, ups_spelled, downs_spelled}
use Rattle.simplify_expressions.proofs.Simplified.{known_kept, regroup}
use Rattle.simplify_expressions.proofs.simplify_predicates.simplify_column_predicates.Goals as goal

pub equal_part-equal-requires : goal.equal_part-equal-requires
equal_part-equal-requires c =
    let p = c.requires in
    let a = c.args in
    known_kept (of_class Equality a.column.q a.column.n) p.exprs
    (c.select_class-eq_predicates.ensures _ _ p.lists
    (lists_none c.empty.ensures)) (omega (arith, lists_length p.lists p.most))

pub most_restrictive-greater-requires : goal.most_restrictive-greater-requires
most_restrictive-greater-requires c =
    let p = c.requires in
    let a = c.args in
    known_kept (of_class Lower a.column.q a.column.n) p.exprs
    (c.select_class-greater_predicates.ensures _ _ p.lists (lists_none c.empty-2.ensures))
    (omega (arith, lists_length p.lists p.most))

pub most_restrictive-requires : goal.most_restrictive-requires
most_restrictive-requires c =
    let p = c.requires in
    let a = c.args in
    known_kept (of_class Upper a.column.q a.column.n) p.exprs
    (c.select_class-less_predicates.ensures _ _ p.lists (lists_none c.empty-3.ensures))
    (omega (arith, lists_length p.lists p.most))

pub returns : goal.returns
returns c =
    λ es fs h k. let a = c.args in
    let q = a.column.q in
    let n = a.column.n in
    rw regroup
    (c.most_restrictive.ensures _ _ (down_expr (nm q n))
    (c.select_class-less_predicates.ensures es _ h (lists_none c.empty-3.ensures))
    (c.most_restrictive-greater.ensures _ _ (up_expr (nm q n))
    (c.select_class-greater_predicates.ensures es _ h
    (lists_none c.empty-2.ensures))
    (c.equal_part-equal.ensures _ fs (nm q n)
    (c.select_class-eq_predicates.ensures es _ h
    (lists_none c.empty.ensures)) k (eqs_spelled q n es))
    (ups_spelled q n es))
    (downs_spelled q n es))
