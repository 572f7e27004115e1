use Prim.Native.Nat.{◌<◌}
use native.Mathlib.Omega.{arith}
use lib.ListN.{length, get_or}
use Rattle.conjuncts.specs.Items.{FALSE}
use Rattle.push_down_base.proofs.Selecting.{all_at}
use Rattle.push_down_join.proofs.Siding.{walk_all, walk_item, clauses_step, clauses_start, clauses_end}
use Rattle.push_down_join.proofs.extract_or_clause.extract_or_clauses_for_join.Goals as goal

pub loop-n-init : goal.loop-n-init
loop-n-init c = λ σ ns t es fs h k f o m. clauses_start fs h

pub add_clause-r-requires-clause-present : goal.add_clause-r-requires-clause-present
add_clause-r-requires-clause-present c =
    let p = c.requires.known in
    record { expr = _; item = walk_item p.lists p.most c.items-n-items.ensures _ _ c.loop-n-test.true c.from.ensures }

pub loop-n-preserved : goal.loop-n-preserved
loop-n-preserved c =
    λ σ ns t es fs h k f o m.
    let p = c.requires.known in
    let i = c.loop-n.n-index in
    let is = c.items-n-items.ensures in
    let lt : i < length fs = omega (arith, walk_all k p.most is, c.loop-n-test.true) in
    let item = walk_item k p.most is i _ c.loop-n-test.true c.from.ensures in
    clauses_step i lt (c.loop-n.invariant σ ns t es fs h k f o m)
    (λ ds g. c.add_clause-r.ensures σ ns t ds (get_or fs i FALSE) g item f (all_at i o lt) m)

pub returns : goal.returns
returns c =
    λ σ ns t es fs h k f o m.
    let p = c.requires.known in
    clauses_end c.loop-n.n-index (omega (arith, walk_all k p.most c.items-n-items.ensures, c.loop-n-test.false))
    (c.loop-n.invariant σ ns t es fs h k f o m)
