-- `filter::simplify_filter` meets its contract.
use Rattle.push_down_merge.proofs.Merges.{simplified_known, simplified_moved, simplified_new, simplified_old}
use Rattle.push_down_merge.proofs.filter.simplify_filter.Goals as goal

pub reorder_predicates-requires : goal.reorder_predicates-requires
reorder_predicates-requires c =
    let p = c.requires in simplified_known p.shaped (c.simplify_predicates-simplified.ensures _ p.shaped.listed)

pub returns-in-Some-clause-remains : goal.returns-in-Some-clause-remains
returns-in-Some-clause-remains c =
    λ e h. let l = c.simplify_predicates-simplified.ensures _ h.listed in
    rw c.joined.ensures (simplified_moved h (c.in-Some.ensures _ l))

pub returns-in-Some-clause-value : goal.returns-in-Some-clause-value
returns-in-Some-clause-value c = rw c.joined.ensures (λ z. cc)

pub returns-then-old-simplified-clause-remains : goal.returns-then-old-simplified-clause-remains
returns-then-old-simplified-clause-remains c =
    λ e h. let l = c.simplify_predicates-simplified.ensures _ h.listed in
    rw c.joined-then-old-simplified.ensures (simplified_new h l (c.in_default.ensures _ l) c.if-old-simplified.true)

pub returns-then-old-simplified-clause-value : goal.returns-then-old-simplified-clause-value
returns-then-old-simplified-clause-value c = rw c.joined-then-old-simplified.ensures (λ z. cc)

pub returns-clause-remains : goal.returns-clause-remains
returns-clause-remains c =
    λ e h. let l = c.simplify_predicates-simplified.ensures _ h.listed in
    simplified_old h l (c.in_default.ensures _ l) c.if-old-simplified.false
