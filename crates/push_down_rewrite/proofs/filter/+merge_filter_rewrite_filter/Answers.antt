use Rattle.std.specs.Prelude.{true, Err, is_ok}
use mathlib.Core.Path.{◌≡◌, refl, sym, ◌∙◌}
use native.Mathlib.Omega.{arith}
use Rattle.std.proofs.Common.{rules}
use Rattle.push_down_merge.proofs.Tested.{elsewhere}
use Rattle.push_down_merge.proofs.OneMerge.{one_merge, merge_rests}
use Rattle.push_down_stays.proofs.Dispatches.{kind_of}
use Rattle.push_down_rewrite.proofs.Again.{at_rest, left_gone, left_other, rests_over, with_left, again, merge_unfit, input_here}
use Rattle.push_down_rewrite.proofs.Falling.{plans_fall}
use Rattle.push_down_rewrite.proofs.filter.+merge_filter_rewrite_filter.Goals as goal

pub merge_filter-filter_input-input-requires : goal.merge_filter-filter_input-input-requires
merge_filter-filter_input-input-requires t c =
    let p = c.requires.on_filter in (
      omega arith,
      record {
        image = c.args.child.image.now;
        stretch = refl;
        short = rw c.requires.image p.rests.placed.short;
        there = record { expr = p.lower; plan = p.plan; standing = elsewhere c.requires.image p.rests.placed.standing };
      },
    )

pub merge_filter-merge_fits-requires-clause-image : goal.merge_filter-merge_fits-requires-clause-image
merge_filter-merge_fits-requires-clause-image t c = c.filter_input-input.ensures.same ∙ c.requires.image

pub merge_filter-merge_fits-requires-clause-mergeable : goal.merge_filter-merge_fits-requires-clause-mergeable
merge_filter-merge_fits-requires-clause-mergeable t c =
    let p = c.requires.on_filter in
    let k = p.rests in
    let h = k.placed in
    let st = elsewhere c.requires.image h.standing in
    let y = input_here c.requires.image (c.filter_input-input.ensures.input _ p.lower p.plan refl (rw c.requires.image h.short) st) in
    let m = one_merge k (λ n i. c.merged_predicate-merged.ensures p.expr p.lower n p.plan k i) y.standing in
    record {
      whole = p.whole;
      spot = p.spot;
      inside = p.inside;
      expr = m.expr;
      made = m.made;
      plan = p.plan;
      standing = m.input.standing;
    }

pub merge_filter-rewrite_filter-requires : goal.merge_filter-rewrite_filter-requires
merge_filter-rewrite_filter-requires t c =
    let p = c.requires.on_filter in
    let k = p.rests in
    let h = k.placed in
    let st = elsewhere c.requires.image h.standing in
    let y = input_here c.requires.image (c.filter_input-input.ensures.input _ p.lower p.plan refl (rw c.requires.image h.short) st) in
    let m = one_merge k (λ n i. c.merged_predicate-merged.ensures p.expr p.lower n p.plan k i) y.standing in
    let fit : is_ok c.merge_fits.result ≡ true = search rules in
    let fits = sym (c.merge_fits.ensures p.whole p.spot p.inside m.expr p.plan m.made m.input.standing m.input.lists) ∙ fit in (
      omega (arith, plans_fall h.short h.standing y.link m.input.standing, c.decreases),
      (
        c.filter_input-input.ensures.same ∙ c.requires.image,
        record {
          whole = p.whole;
          spot = p.spot;
          inside = p.inside;
          expr = m.expr;
          plan = p.plan;
          rests = merge_rests k p.inside m fits;
        },
      ),
    )

pub merge_filter-returns-clause-finishes : goal.merge_filter-returns-clause-finishes
merge_filter-returns-clause-finishes t c =
    λ w f i e b q k. let h = k.placed in
    let st = elsewhere c.requires.image h.standing in
    let y = input_here c.requires.image (c.filter_input-input.ensures.input _ b q refl (rw c.requires.image h.short) st) in
    let m = one_merge k (λ n j. c.merged_predicate-merged.ensures e b n q k j) y.standing in
    let yes = sym (c.in_ok-merge_fits.ensures w f i m.expr q m.made m.input.standing m.input.lists) in
    again e b q m.is yes (c.rewrite_filter.ensures.finishes w f i m.expr q (merge_rests k i m yes))

pub merge_filter-returns-in_err-merge_fits-clause-finishes : goal.merge_filter-returns-in_err-merge_fits-clause-finishes
merge_filter-returns-in_err-merge_fits-clause-finishes t c =
    λ w f i e b q k. let h = k.placed in
    let st = elsewhere c.requires.image h.standing in
    let y = input_here c.requires.image (c.filter_input-input.ensures.input _ b q refl (rw c.requires.image h.short) st) in
    let m = one_merge k (λ n j. c.merged_predicate-merged.ensures e b n q k j) y.standing in
    let same : c.from_residual.result ≡ Err c.in_err-merge_fits.field-0.0 = grind arith in
    rw same (merge_unfit e b q m.is (sym (c.in_err-merge_fits.ensures w f i m.expr q m.made m.input.standing m.input.lists)))

pub rewrite_filter-resume_in_place-requires-clause-left_inside : goal.rewrite_filter-resume_in_place-requires-clause-left_inside
rewrite_filter-resume_in_place-requires-clause-left_inside t c =
    let p = c.requires.on_plan in
    let k = c.simplify_filter-left.ensures.remains p.expr p.rests.shaped in record {
      whole = p.whole;
      spot = p.spot;
      inside = p.inside;
      option = _;
      plan = p.plan;
      left = left_gone p.rests k (sym c.is_gone.ensures ∙ c.if-is_gone.true);
    }

pub rewrite_filter-returns-then-is_gone-clause-finishes : goal.rewrite_filter-returns-then-is_gone-clause-finishes
rewrite_filter-returns-then-is_gone-clause-finishes t c =
    λ w f i e q h. let l = left_gone h (c.simplify_filter-left.ensures.remains e h.shaped) (sym c.is_gone.ensures ∙ c.if-is_gone.true) in
    at_rest e l (c.resume_in_place.ensures.finishes w f i _ q l)

pub rewrite_filter-merge_filter-requires : goal.rewrite_filter-merge_filter-requires
rewrite_filter-merge_filter-requires t c =
    let p = c.requires.on_plan in
    let n = kind_of c.args.input c.kind.ensures (elsewhere c.requires.image p.rests.placed.standing) in
    let o = rests_over p.rests (c.simplify_filter-left.ensures.remains p.expr p.rests.shaped) n
    c.if-kind-eq-FILTER.true
    (sym c.is_gone.ensures ∙ c.if-is_gone.false) in (
      omega (arith, c.decreases),
      (
        c.requires.image,
        record {
          whole = p.whole;
          spot = p.spot;
          inside = p.inside;
          expr = o.upper;
          lower = o.below.expr;
          plan = o.below.plan;
          rests = o.rests;
        },
      ),
    )

pub rewrite_filter-returns-then-kind-eq-FILTER-clause-finishes : goal.rewrite_filter-returns-then-kind-eq-FILTER-clause-finishes
rewrite_filter-returns-then-kind-eq-FILTER-clause-finishes t c =
    λ w f i e q h. let k = c.simplify_filter-left.ensures.remains e h.shaped in
    let n = kind_of c.args.input c.kind.ensures (elsewhere c.requires.image h.placed.standing) in
    let o = rests_over h k n c.if-kind-eq-FILTER.true (sym c.is_gone.ensures ∙ c.if-is_gone.false) in
    with_left h k o (c.merge_filter.ensures.finishes w f i o.upper o.below.expr o.below.plan
    o.rests)

pub rewrite_filter-resume_in_place-requires-2-clause-left_inside : goal.rewrite_filter-resume_in_place-requires-2-clause-left_inside
rewrite_filter-resume_in_place-requires-2-clause-left_inside t c =
    let p = c.requires.on_plan in
    let n = kind_of c.args.input c.kind.ensures (elsewhere c.requires.image p.rests.placed.standing) in record {
      whole = p.whole;
      spot = p.spot;
      inside = p.inside;
      option = _;
      plan = p.plan;
      left = left_other p.rests (c.simplify_filter-left.ensures.remains p.expr p.rests.shaped) n
          c.if-kind-eq-FILTER.false;
    }

pub rewrite_filter-returns-clause-finishes : goal.rewrite_filter-returns-clause-finishes
rewrite_filter-returns-clause-finishes t c =
    λ w f i e q h. let n = kind_of c.args.input c.kind.ensures (elsewhere c.requires.image h.placed.standing) in
    let l = left_other h (c.simplify_filter-left.ensures.remains e h.shaped) n c.if-kind-eq-FILTER.false in
    at_rest e l (c.resume_in_place-2.ensures.finishes w f i _ q l)
