-- `table_scan::write_filtered` meets its contract.
use mathlib.Core.Path.{sym, ◌∙◌}
use native.Mathlib.Omega.{arith}
use Rattle.plan.specs.Syntax.{scan}
use Rattle.conjuncts.proofs.Listed.{lists_length}
use Rattle.writing.specs.Maps.{map_of}
use Rattle.writing.proofs.Maps.{plan_maps_to, plan_over}
use Rattle.writing.proofs.Pushing.{pushes_of, filters_none}
use Rattle.writing.proofs.Written.{wrote_filtered}
use Rattle.push_down_arms.proofs.table_scan.write_filtered.Goals as goal

pub returns-then-above-eq0-clause-wrote : goal.returns-then-above-eq0-clause-wrote
returns-then-above-eq0-clause-wrote c =
    λ t fs es xs ys h k a b. rw (filters_none xs (scan t fs ys) (lists_length a c.requires.some_scan.1.most ∙ c.if-above-eq0.true))
    (c.write_scan.ensures.wrote t fs es ys h k b)

pub copy_joined-requires : goal.copy_joined-requires
copy_joined-requires c =
    let s = c.requires.some_scan.0 in (
      omega arith,
      (
        record {
          mapping = map_of (scan s.table s.fields s.filters);
          exprs = _;
          pushes = pushes_of c.requires.some_scan.1.lists;
          most = c.requires.some_scan.1.most;
        },
        (omega arith, plan_over c.requires.some_scan.0.placed.standing (omega (arith, c.requires.shallow))),
      ),
    )

pub returns-clause-wrote : goal.returns-clause-wrote
returns-clause-wrote c =
    λ t fs es xs ys h k a b. wrote_filtered c.args.out.now.long xs (scan t fs ys)
    (λ z. c.if-above-eq0.false (sym (lists_length a c.requires.some_scan.1.most) ∙ z))
    c.put_kind.ensures.put
    (λ e rest i. c.copy_joined.ensures.wrote (map_of (scan t fs es)) (plan_maps_to h.standing) e rest (pushes_of (rw i at a)))
    (c.write_scan-2.ensures.wrote t fs es ys h k b)
