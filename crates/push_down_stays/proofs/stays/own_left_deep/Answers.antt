-- `stays::own_left_deep` meets its contract.
use native.Mathlib.Omega.{arith}
use Rattle.push_down_join.proofs.JoinParts.{own_expr}
use Rattle.push_down_stays.proofs.Stayings.{own_deep, own_bare}
use Rattle.push_down_stays.proofs.stays.own_left_deep.Goals as goal

pub returns-in-None : goal.returns-in-None
returns-in-None c =
    λ k l r on f h. own_bare (rw c.in-None.is at c.filter_of.ensures k l r on f h)

pub is_left_deep-requires : goal.is_left_deep-requires
is_left_deep-requires c =
    (omega arith, own_expr (rw c.in-Some.is at c.filter_of.ensures _ _ _ _ _ c.requires.placed))

pub returns-in-Some : goal.returns-in-Some
returns-in-Some c =
    λ k l r on f h. own_deep (rw c.in-Some.is at c.filter_of.ensures k l r on f h) c.is_left_deep.ensures
