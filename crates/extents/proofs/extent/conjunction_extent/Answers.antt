use mathlib.Core.Path.{ap, ◌∙◌}
use native.Mathlib.Omega.{arith}
use lib.ListN.{get_or}
use Rattle.extents.proofs.Extents.{first_one, first_next, first_all, first_bounded, present_at, rest_at, rest_end, rest_in}
use Rattle.extents.proofs.extent.conjunction_extent.Goals as goal

pub item_extent-r-requires : goal.item_extent-r-requires
item_extent-r-requires c =
    present_at c.requires.known 0 _ c.requires.len_nonzero (c.from.ensures ∙ ap (λ xs. get_or xs 0 0) c.items-items.ensures)

pub loop-n-init : goal.loop-n-init
loop-n-init c =
    first_one c.requires.s_len_bound c.requires.known c.requires.len_nonzero
    (c.from.ensures ∙ ap (λ xs. get_or xs 0 0) c.items-items.ensures) c.item_extent-r.ensures

pub item_extent-e-requires : goal.item_extent-e-requires
item_extent-e-requires c =
    let p = c.requires.known in
    let is = c.items-items.ensures in
    present_at p _ _ (rest_in p is c.loop-n-test.true) (rest_at p is c.loop-n-test.true c.from-in-loop-n.ensures)

pub overflow_add-r : goal.overflow_add-r
overflow_add-r c = let f = c.loop-n.invariant in omega (arith, f.records, f.most, c.requires.known.most)

pub overflow_add-r-in-loop-n : goal.overflow_add-r-in-loop-n
overflow_add-r-in-loop-n c =
    let p = c.requires.known in
    let is = c.items-items.ensures in
    let f = first_next c.requires.s_len_bound p c.loop-n.invariant (rest_in p is c.loop-n-test.true)
    (rest_at p is c.loop-n-test.true c.from-in-loop-n.ensures) c.item_extent-e.ensures in
    omega arith

pub overflow_add-r-in-loop-n-2 : goal.overflow_add-r-in-loop-n-2
overflow_add-r-in-loop-n-2 c =
    let p = c.requires.known in
    let is = c.items-items.ensures in
    let f = first_next c.requires.s_len_bound p c.loop-n.invariant (rest_in p is c.loop-n-test.true)
    (rest_at p is c.loop-n-test.true c.from-in-loop-n.ensures) c.item_extent-e.ensures in
    omega arith

pub loop-n-preserved : goal.loop-n-preserved
loop-n-preserved c =
    let p = c.requires.known in
    let is = c.items-items.ensures in
    rw c.max.ensures (first_next c.requires.s_len_bound p c.loop-n.invariant (rest_in p is c.loop-n-test.true)
    (rest_at p is c.loop-n-test.true c.from-in-loop-n.ensures) c.item_extent-e.ensures)

pub returns : goal.returns
returns c =
    let end = rest_end c.requires.known c.items-items.ensures c.loop-n-test.false in
    record {
      measures = first_all c.requires.s_len_bound c.requires.known c.loop-n.invariant end;
      bounded = first_bounded c.requires.s_len_bound c.requires.known c.loop-n.invariant;
    }
