-- What the names that the code has for the values of words stand for.
use Rattle.std.specs.Prelude.{cond, ℕ, eqb}
use Rattle.plan.specs.Syntax as S
use Rattle.plan.specs.Trees.{op_number}
use Rattle.plan.specs.declared.words.Comparison.{Comparison}
use Rattle.plan.specs.declared.words.Comparison.TheVariants.{Eq, NotEq, Lt, LtEq, Gt, GtEq}
use Rattle.plan.specs.declared.words.Operator.{Operator}
use Rattle.plan.specs.declared.words.Operator.TheVariants.{And, Or, Compare}
use Rattle.plan.specs.declared.words.Test.{Test}
use Rattle.plan.specs.declared.words.Test.TheVariants.{IsNull, IsNotNull, IsTrue, IsFalse, IsUnknown, IsNotTrue, IsNotFalse, IsNotUnknown}
use Rattle.plan.specs.declared.words.JoinKind.{JoinKind}
use Rattle.plan.specs.declared.words.JoinKind.TheVariants.{Inner, Left, Right, Full, LeftSemi, RightSemi, LeftAnti, RightAnti}
use Rattle.plan.specs.declared.words.Aggregate.{Aggregate}
use Rattle.plan.specs.declared.words.Aggregate.TheVariants.{Count, Min, Max}

abbrev pub cmp_of : Comparison → S.Cmp
cmp_of Eq = S.eq
cmp_of NotEq = S.ne
cmp_of Lt = S.lt
cmp_of LtEq = S.le
cmp_of Gt = S.gt
cmp_of GtEq = S.ge

-- the comparison with this number; Eq for the number of none
abbrev pub cmp_at : ℕ → S.Cmp
cmp_at p =
    cond (eqb p (op_number (S.cmp S.ne))) S.ne
    (cond (eqb p (op_number (S.cmp S.lt))) S.lt
    (cond (eqb p (op_number (S.cmp S.le))) S.le
    (cond (eqb p (op_number (S.cmp S.gt))) S.gt
    (cond (eqb p (op_number (S.cmp S.ge))) S.ge S.eq))))

abbrev pub op_of : Operator → S.Op
op_of And = S.and
op_of Or = S.or
op_of (Compare c) = S.cmp (cmp_of c)

abbrev pub test_of : Test → S.Test
test_of IsNull = S.is_null
test_of IsNotNull = S.is_not_null
test_of IsTrue = S.is_true
test_of IsFalse = S.is_false
test_of IsUnknown = S.is_unknown
test_of IsNotTrue = S.is_not_true
test_of IsNotFalse = S.is_not_false
test_of IsNotUnknown = S.is_not_unknown

abbrev pub join_of : JoinKind → S.Kind
join_of Inner = S.inner
join_of Left = S.left
join_of Right = S.right
join_of Full = S.full
join_of LeftSemi = S.left_semi
join_of RightSemi = S.right_semi
join_of LeftAnti = S.left_anti
join_of RightAnti = S.right_anti

abbrev pub aggregate_of : Aggregate → S.Agg
aggregate_of Count = S.count
aggregate_of Min = S.min
aggregate_of Max = S.max
