-- `table_scan::rewrite_table_scan` meets its contract.
use mathlib.Core.Path.{refl, sym, ◌∙◌}
use native.Mathlib.Nat.{le_trans, le_of_eq}
use Rattle.conjuncts.proofs.Listed.{known_of, lists_length}
use Rattle.push_down_base.proofs.Answering.{answers}
use Rattle.push_down_arms.proofs.ScanShares.{some_scan, taken_few, left_few, own_few, left_plain, scan_kept, scan_pushed, pushed_fits, pushed_over}
use Rattle.push_down_arms.proofs.table_scan.rewrite_table_scan.Goals as goal

pub returns-then-taken-eq0-clause-answers : goal.returns-then-taken-eq0-clause-answers
returns-then-taken-eq0-clause-answers c =
    λ e t fs es h. let z = c.share_of-share.ensures e t fs es h in
    rw (scan_kept h (lists_length z.takes (known_of z.takes (taken_few h)).most ∙ c.if-taken-eq0.true))
    (c.keep_filter.ensures.answers e _ h)

pub scan_filters-requires : goal.scan_filters-requires
scan_filters-requires c = (_, some_scan c.requires.over_scan.rests refl)

pub unique-filters-requires : goal.unique-filters-requires
unique-filters-requires c =
    let h = c.requires.over_scan.rests in
    let z = c.share_of-share.ensures _ _ _ _ h in
    record { known = known_of (c.scan_filters.ensures _ _ _ h.placed) (own_few h); known_2 = known_of z.takes (taken_few h) }

pub returns-then-filters-gt-MAX_LIST-clause-answers : goal.returns-then-filters-gt-MAX_LIST-clause-answers
returns-then-filters-gt-MAX_LIST-clause-answers c =
    λ e t fs es h. let z = c.share_of-share.ensures e t fs es h in
    let own = c.scan_filters.ensures t fs es h.placed in
    let l = c.unique-filters.ensures _ _ own z.takes in
    rw (scan_pushed h (λ n. c.if-taken-eq0.false (sym (lists_length z.takes (known_of z.takes (taken_few h)).most) ∙ n)))
    (pushed_over t fs _ _ refl refl l c.if-filters-gt-MAX_LIST.true)

pub write_filtered-requires-clause-some_scan : goal.write_filtered-requires-clause-some_scan
write_filtered-requires-clause-some_scan c =
    let h = c.requires.over_scan.rests in
    let z = c.share_of-share.ensures _ _ _ _ h in
    let l = c.unique-filters.ensures _ _ (c.scan_filters.ensures _ _ _ h.placed) z.takes in (
      some_scan h z.count,
      known_of z.leaves (left_few h),
      record { exprs = _; lists = l; most = c.if-filters-gt-MAX_LIST.false },
    )

pub returns-clause-answers : goal.returns-clause-answers
returns-clause-answers c =
    λ e t fs es h. let z = c.share_of-share.ensures e t fs es h in
    let own = c.scan_filters.ensures t fs es h.placed in
    let l = c.unique-filters.ensures _ _ own z.takes in
    rw (scan_pushed h (λ n. c.if-taken-eq0.false (sym (lists_length z.takes (known_of z.takes (taken_few h)).most) ∙ n)))
    (answers refl (pushed_fits t fs _ (left_plain h) (left_few h)
    (le_trans (le_of_eq (lists_length l c.if-filters-gt-MAX_LIST.false)) c.if-filters-gt-MAX_LIST.false))
    (c.write_filtered.ensures.wrote t fs es _ _ h.placed z.count z.leaves l))
