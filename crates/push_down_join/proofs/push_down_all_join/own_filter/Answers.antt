-- `push_down_all_join::own_filter` meets its contract.
use mathlib.Core.List.{[]}
use mathlib.Core.Path.{refl}
use native.Mathlib.Omega.{arith}
use Rattle.conjuncts.proofs.Listed.{lists_none}
use Rattle.conjuncts.proofs.Standing.{tree_standing}
use Rattle.push_down_base.proofs.Scoping.{reads_none}
use Rattle.push_down_join.proofs.JoinParts.{own_expr, own_none, own_reads, own_there}
use Rattle.push_down_join.proofs.push_down_all_join.own_filter.Goals as goal

pub returns-in-None : goal.returns-in-None
returns-in-None c = λ k l r on f h. own_none (c.in-None.ensures k l r on f h) (reads_none c.empty-in-None.ensures)

pub split_conjunction-requires : goal.split_conjunction-requires
split_conjunction-requires c =
    let p = c.requires in
    let h = c.in-Some.ensures p.kind p.lhs p.rhs p.keys p.condition p.placed in
    let t = own_there h p.placed.short in
    (omega arith, (own_expr h, (t.1, t.2)))

pub returns-in-Some : goal.returns-in-Some
returns-in-Some c =
    λ k l r on f h. own_reads h (c.in-Some.ensures k l r on f h) (λ e t. c.split_conjunction.ensures _ e [] (tree_standing c.in-Some.filter refl refl t) t (lists_none c.empty.ensures))
