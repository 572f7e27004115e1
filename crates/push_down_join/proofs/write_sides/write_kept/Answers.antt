use native.Mathlib.Omega.{arith}
use Rattle.plan.specs.Schema.{schema}
use Rattle.rewrite.specs.PushDownFilter.{keep_predicates}
use Rattle.conjuncts.proofs.Listed.{lists_length}
use Rattle.writing.proofs.Maps.{over_at}
use Rattle.writing.proofs.Pushing.{pushes_of, filters_none}
use Rattle.writing.proofs.Written.{wrote_filtered}
use Rattle.push_down_join.specs.JoinPlans.{join_over}
use Rattle.push_down_join.proofs.JoinWritten.{kept_some}
use Rattle.push_down_join.proofs.write_sides.write_kept.Goals as goal

pub returns-then-v-eq0-clause-wrote : goal.returns-then-v-eq0-clause-wrote
returns-then-v-eq0-clause-wrote c =
    λ k l r on f P G σ h. let kept = h.moved.kept in
    rw (filters_none (keep_predicates k (schema l) (schema r) on P G) (join_over k l r on P G)
    (omega (arith, lists_length kept.lists kept.most, c.if-v-eq0.true)))
    (c.write_join.ensures.wrote k l r on f P G σ h)

pub copy_joined-requires : goal.copy_joined-requires
copy_joined-requires c =
    (omega arith, (kept_some c.requires.carried.carries, (omega arith, over_at c.requires.over (omega arith))))

pub returns-clause-wrote : goal.returns-clause-wrote
returns-clause-wrote c =
    λ k l r on f P G σ h. let kept = h.moved.kept in
    wrote_filtered c.args.out.now.long (keep_predicates k (schema l) (schema r) on P G) (join_over k l r on P G)
    (λ z. omega (arith, lists_length kept.lists kept.most, c.if-v-eq0.false)) c.put_kind.ensures.put
    (λ e rest same. c.copy_joined.ensures.wrote σ h.maps e rest (pushes_of (rw same at kept.lists)))
    (c.write_join-2.ensures.wrote k l r on f P G σ h)
