-- `node::finish` meets its contract: what is written is the whole with the answer, and its records, its depth and its lists are tested.
use mathlib.Core.Path.{sym, ◌∙◌}
use native.Mathlib.Omega.{arith}
use Rattle.plan.specs.Trees.{plan_tree}
use Rattle.plan.specs.Measure.{size_p}
use Rattle.answers.proofs.Fitting.{begun_count, flattened, answered}
use Rattle.push_down_merge.proofs.Tested.{few_records, all_records, end_within, fitting_few, fitting_deep}
use Rattle.push_down_rewrite.proofs.Finishes.{unfit, at_once, decides, begun}
use Rattle.image.proofs.Room.{cap_le}
use Rattle.push_down_rewrite.proofs.node.finish.Goals as goal

pub write_records-requires : goal.write_records-requires
unfolding size_p
write_records-requires c =
    let r = c.requires.replaced.replaces in
    let b = r.begun in
    let i = r.inside in record {
      n_le_max_records = (omega (arith, b.records, few_records i), omega (arith, b.records, all_records i), c.requires.levels_len);
      from_le_n = omega (arith, b.records, b.end, end_within i);
    }

pub returns-then-not-fits-clause-finishes : goal.returns-then-not-fits-clause-finishes
unfolding size_p
returns-then-not-fits-clause-finishes c =
    λ node w f t h. let v = c.write_records.ensures.ran (plan_tree w) h.inside.root.here (few_records h.inside)
    (omega (arith, h.begun.records)) h.begun.depths in
    unfit (at_once f t.plan (sym c.if-not-fits.true ∙ decides h v c.fits.ensures))

pub relink-requires : goal.relink-requires
unfolding size_p
relink-requires c =
    let h = c.requires.replaced.replaces in
    let v = c.write_records.ensures.ran _ h.inside.root.here (few_records h.inside)
    (omega (arith, h.begun.records)) h.begun.depths in
    let y = c.if-not-fits.false in
    let b = begun h v c.fits.ensures y in
    flattened b (fitting_few c.fits.ensures y) (fitting_deep c.fits.ensures y b)

pub returns-clause-finishes : goal.returns-clause-finishes
unfolding size_p
returns-clause-finishes c =
    λ node w f t h. let v = c.write_records.ensures.ran (plan_tree w) h.inside.root.here (few_records h.inside)
    (omega (arith, h.begun.records)) h.begun.depths in
    let y = c.if-not-fits.false in
    let b = begun h v c.fits.ensures y in
    let few = fitting_few c.fits.ensures y in
    record {
      fit = at_once f t.plan (sym y ∙ decides h v c.fits.ensures);
      flag = h.answers.flag;
      image = record { count = begun_count b few; bytes = answered b few (fitting_deep c.fits.ensures y b) c.relink.ensures };
    }

pub returns-then-not-fits-clause-counted : goal.returns-then-not-fits-clause-counted
returns-then-not-fits-clause-counted c = rw c.write_records.ensures.next (cap_le _)

pub returns-clause-counted : goal.returns-clause-counted
returns-clause-counted c = rw c.write_records.ensures.next (cap_le _)
