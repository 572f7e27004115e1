-- `table_scan::share_of` meets its contract.
use native.Mathlib.Omega.{arith}
use Rattle.plan.specs.Schema.{schema}
use Rattle.plan.specs.Syntax.{scan}
use Rattle.rewrite.specs.PushDownFilter.{marked}
use Rattle.conjuncts.proofs.Listed.{known_of}
use Rattle.writing.proofs.Maps.{plan_is}
use Rattle.push_down_arms.proofs.ScanShares.{fields_most, fields_count, some_scan, lasting_over, lasting_few, volatile_few}
use Rattle.push_down_arms.proofs.table_scan.share_of.Goals as goal

pub schema_columns-fields-requires : goal.schema_columns-fields-requires
schema_columns-fields-requires c =
    (omega arith, record { plan = _; is = plan_is c.args.plan c.requires.rests.placed.standing })

pub marked_fields-marked-requires : goal.marked_fields-marked-requires
marked_fields-marked-requires c =
    let h = c.requires.rests.placed in
    let n = c.schema_columns-fields.ensures _ _ (plan_is c.args.plan h.standing) c.no_fields.ensures in
    some_scan c.requires.rests (fields_count h n)

pub part_supported-requires : goal.part_supported-requires
part_supported-requires c =
    let r = c.requires.rests in
    let n = c.schema_columns-fields.ensures _ _ (plan_is c.args.plan r.placed.standing) c.no_fields.ensures in
    record { known = known_of (c.part_volatile.ensures _ r.shaped.listed).1 (lasting_few r); len_le_max_fields = fields_most r.placed n }

pub extend-requires : goal.extend-requires
extend-requires c =
    let r = c.requires.rests in
    record { image = _; known = known_of (c.part_volatile.ensures _ r.shaped.listed).0 (volatile_few r) }

pub returns : goal.returns
returns c =
    λ e t fs es h. let n = c.schema_columns-fields.ensures (scan t fs es) _ (plan_is c.args.plan h.placed.standing) c.no_fields.ensures in
    let k = fields_count h.placed n in
    let m = c.marked_fields-marked.ensures t fs es h.placed k in
    let v = c.part_volatile.ensures _ h.shaped.listed in
    let w = c.part_supported.ensures _ (schema (scan t fs es)) (λ a. marked fs a) v.1 n (lasting_over h) m in
    record { count = k; takes = w.0; leaves = c.extend.ensures _ _ _ w.1 v.0 }
