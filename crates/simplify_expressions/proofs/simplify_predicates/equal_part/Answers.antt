-- `simplify_predicates::equal_part` meets its contract.
use mathlib.Core.Path.{sym, ◌∙◌}
use Prim.Native.Nat.{◌-◌}
use native.Mathlib.Omega.{arith}
use lib.ListN.{get_or}
use Rattle.plan.specs.Lists.{put}
use Rattle.conjuncts.specs.Items.{FALSE}
use Rattle.conjuncts.proofs.Listed.{lists_at, lists_length, item_false}
use Rattle.simplify_expressions.proofs.Simplified.{eq_last, eq_false}
use Rattle.simplify_expressions.proofs.simplify_predicates.equal_part.Goals as goal

pub add_if-requires : goal.add_if-requires
unfolding put
add_if-requires c =
    let p = c.requires in
    (lists_at p.lists p.most _ _ (omega (arith, c.if-n-eq0.false)) c.item_at.ensures).small

pub returns-then-all_agree : goal.returns-then-all_agree
unfolding put
returns-then-all_agree c =
    λ es fs x h k sp. let p = c.requires in
    let last = c.args.c.len - 1 in
    rw (eq_last x es last (omega (arith, lists_length h p.most, c.if-n-eq0.false)) sp
    (sym c.if-all_agree.true ∙ c.all_agree.ensures es h))
    (c.add_if.ensures _ fs (get_or es last FALSE) k
    (lists_at h p.most _ _ (omega (arith, c.if-n-eq0.false)) c.item_at.ensures))

pub returns : goal.returns
unfolding put
returns c =
    λ es fs x h k sp. let p = c.requires in
    rw (eq_false x es (omega (arith, lists_length h p.most, c.if-n-eq0.false)) (sym c.if-all_agree.false
    ∙ c.all_agree.ensures es h))
    (c.add_if-2.ensures _ fs FALSE k item_false)
