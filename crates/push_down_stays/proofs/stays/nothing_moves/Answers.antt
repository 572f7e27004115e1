-- `stays::nothing_moves` meets its contract.
use mathlib.Core.Path.{refl, ap, ◌∙◌}
use native.Mathlib.Omega.{arith}
use mathlib.Core.Bool.{not}
use mathlib.Core.List.{◌++◌, map}
use Rattle.plan.specs.Schema.{schema}
use Rattle.plan.specs.Syntax.{Name, Expr, col}
use Rattle.rewrite.specs.PushDownFilter.{ren, nothing_moves}
use Rattle.conjuncts.proofs.Standing.{plan_standing}
use Rattle.push_down_join.specs.Scopes.{swap}
use Rattle.push_down_join.proofs.JoinWritten.{asked}
use Rattle.push_down_join.proofs.SideLists.{renames_swap}
use Rattle.push_down_stays.proofs.Stayings.{not_not}
use Rattle.push_down_stays.proofs.stays.nothing_moves.Goals as goal

pub join_scope-sc-requires : goal.join_scope-sc-requires
join_scope-sc-requires c =
    let q = c.requires in
    let p = q.placed in
    let h = plan_standing c.args.plan refl refl p.standing in
    (omega arith, record { kind = q.kind; lhs = q.lhs; rhs = q.rhs; keys = q.keys; condition = q.condition; is = h; rules = p.rules })

pub moves_of-v-requires : goal.moves_of-v-requires
moves_of-v-requires c =
    let q = c.requires in
    let sc = c.join_scope-sc.ensures q.kind q.lhs q.rhs q.keys q.condition (plan_standing c.args.plan refl refl q.placed.standing) q.placed.rules in
    (asked sc q.reads, asked sc q.reads_own)

pub returns : goal.returns
returns c =
    λ k l r on f P G h q g. let s = schema l in
    let t = schema r in
    let sc = c.join_scope-sc.ensures k l r on f (plan_standing c.args.plan refl refl h.standing) h.rules in
    let e = c.join_kind-kind.ensures k l r on f h in
    let σ : Name → Expr = λ x. col (ren (s ++ t) (map (swap on) (s ++ t)) x) in
    let v = c.moves_of-v.ensures k s t on P G σ e sc q g (renames_swap (s ++ t) on) in
    ap not v.flag ∙ not_not (nothing_moves k s t on P G)
