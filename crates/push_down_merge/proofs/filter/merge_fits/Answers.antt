-- `filter::merge_fits` meets its contract: what is written is the plan after the merge, and its records, its depth and its lists are tested.
use mathlib.Core.Path.{sym, ◌∙◌}
use native.Mathlib.Omega.{arith}
use Rattle.plan.specs.Syntax.{filter}
use Rattle.plan.specs.Trees.{plan_tree}
use Rattle.plan.specs.Measure.{size_p}
use Rattle.writing.specs.Maps.{map_of}
use Rattle.writing.proofs.Maps.{plan_deep, plan_is, plan_maps_to, plan_over}
use Rattle.answers.proofs.Splice.{spliced}
use Rattle.push_down_merge.proofs.Tested.{made_predicate, few_records, all_records, stands_inside, end_within, level_small}
use Rattle.push_down_merge.proofs.Tested.{elsewhere, too_long, few_lists, within_is}
use Rattle.push_down_merge.proofs.filter.merge_fits.Goals as goal

pub returns-then-list-gt-MAX_LIST : goal.returns-then-list-gt-MAX_LIST
returns-then-list-gt-MAX_LIST c =
    λ w f h e q m k l. sym (too_long h m q c.if-list-gt-MAX_LIST.true)

pub write_before-spot-requires-clause-there_p : goal.write_before-spot-requires-clause-there_p
write_before-spot-requires-clause-there_p c =
    record { plan = c.requires.mergeable.spot.plan; standing = stands_inside c.requires.mergeable.inside }

pub make_filter-requires : goal.make_filter-requires
make_filter-requires c =
    let q = c.requires.mergeable in
    let i = q.inside in
    let b = c.write_before-spot.ensures.before q.whole q.spot i.root i.there (stands_inside i) in
    let standing = elsewhere c.requires.image q.standing in (
      omega arith,
      (
        omega arith,
        (
          record { mapping = map_of q.plan; expr = q.expr; predicate = made_predicate _ q.made; most = c.if-list-gt-MAX_LIST.false },
          (plan_over standing (omega (arith, level_small i b.level)), plan_deep c.args.input standing),
        ),
      ),
    )

pub write_records-requires : goal.write_records-requires
unfolding size_p
write_records-requires c =
    let i = c.requires.mergeable.inside in
    let b = c.write_before-spot.ensures.before c.requires.mergeable.whole c.requires.mergeable.spot i.root i.there (stands_inside i) in record {
      n_le_max_records = (
        omega (arith, b.records, few_records i),
        omega (arith, b.records, all_records i),
        c.write_before-spot.auto.levels ∙ c.requires.scratch.1,
      );
      from_le_n = omega (arith, b.records, b.end, end_within i);
    }

pub returns-then-not-fits : goal.returns-then-not-fits
unfolding size_p
returns-then-not-fits c =
    λ w f h e q m k l. let b = c.write_before-spot.ensures.before w f h.root h.there (stands_inside h) in
    let t = elsewhere c.requires.image k in
    let v = c.make_filter.ensures.wrote (map_of q) (plan_maps_to t) e (made_predicate _ m) q (plan_is c.args.input t) in
    let a = c.write_records.ensures.ran (plan_tree w) h.root.here (few_records h) (omega (arith, b.records)) b.depths in
    let g = spliced w _ f h.there (filter e q) c.write_before-spot.new.out.long (few_records h) b (rw c.write_before-spot.ensures.next at v) a in
    sym c.if-not-fits.true ∙ within_is c.fits.ensures (f.back (filter e q)) g (few_lists h m q l c.if-list-gt-MAX_LIST.false)

pub returns : goal.returns
unfolding size_p
returns c =
    λ w f h e q m k l. let b = c.write_before-spot.ensures.before w f h.root h.there (stands_inside h) in
    let t = elsewhere c.requires.image k in
    let v = c.make_filter.ensures.wrote (map_of q) (plan_maps_to t) e (made_predicate _ m) q (plan_is c.args.input t) in
    let a = c.write_records.ensures.ran (plan_tree w) h.root.here (few_records h) (omega (arith, b.records)) b.depths in
    let g = spliced w _ f h.there (filter e q) c.write_before-spot.new.out.long (few_records h) b (rw c.write_before-spot.ensures.next at v) a in
    sym c.if-not-fits.false ∙ within_is c.fits.ensures (f.back (filter e q)) g (few_lists h m q l c.if-list-gt-MAX_LIST.false)
