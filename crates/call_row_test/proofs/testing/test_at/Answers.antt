-- `testing::test_at` meets its contract.
use native.Mathlib.Omega.{arith}
use mathlib.Core.Path.{refl, ◌∙◌}
use Rattle.call_row_test.proofs.Locating.{located}
use Rattle.call_row_test.proofs.RowTesting.{absent, other_kind, present, filter_stood, filter_here, filter_tested}
use Rattle.call_row_test.proofs.testing.test_at.Goals as goal

pub returns-then-image-node : goal.returns-then-image-node
returns-then-image-node c =
    let w = c.requires in absent _ _ (located _ _ 0 _ w.sound w.stands) (omega (arith, c.if-image-node.true))

pub returns-then-word_at-ne-FILTER : goal.returns-then-word_at-ne-FILTER
returns-then-word_at-ne-FILTER c =
    let w = c.requires in other_kind _ _ (located _ _ 0 _ w.sound w.stands)
    (λ e. c.if-word_at-ne-FILTER.true (c.word_at.ensures.0 ∙ rw c.record_at.ensures e))

pub invariant_of-filter : goal.invariant_of-filter
invariant_of-filter c =
    let f = present (located _ c.args.image.now 0 c.args.node c.requires.sound c.requires.stands)
    (omega (arith, c.requires.bytes, c.if-image-node.false))
    (rw (← c.record_at.ensures, ← c.word_at.ensures.0) c.if-word_at-ne-FILTER.false) in
    record { past = omega arith; stood = filter_stood f }

pub test_filter-requires : goal.test_filter-requires
test_filter-requires c =
    let f = present (located _ c.args.image.now 0 c.args.node c.requires.sound c.requires.stands)
    (omega (arith, c.requires.bytes, c.if-image-node.false))
    (rw (← c.record_at.ensures, ← c.word_at.ensures.0) c.if-word_at-ne-FILTER.false) in
    (f.filter_is.predicate, f.filter_is.input, filter_here f refl refl)

pub returns : goal.returns
returns c =
    let f = present (located _ c.args.image.now 0 c.args.node c.requires.sound c.requires.stands)
    (omega (arith, c.requires.bytes, c.if-image-node.false))
    (rw (← c.record_at.ensures, ← c.word_at.ensures.0) c.if-word_at-ne-FILTER.false) in
    c.test_filter.ensures f.filter_is.predicate f.filter_is.input (filter_here f refl refl) ∙ filter_tested f _ _
