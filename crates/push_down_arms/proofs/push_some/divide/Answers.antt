use native.Mathlib.Omega.{arith}
use mathlib.Core.List.{[]}
use Rattle.plan.specs.Schema.{has, schema}
use Rattle.plan.specs.Trees.{plan_tree}
use Rattle.rewrite.specs.Utils.{split_conjunction}
use Rattle.rewrite.proofs.Project.{split_cols}
use Rattle.utils.proofs.Named.{names_fit}
use Rattle.writing.proofs.Maps.{plan_is}
use Rattle.push_down_arms.specs.Movable.{may_move}
use Rattle.push_down_arms.proofs.Divisions.{fields_few, divides_of}
use Rattle.push_down_arms.proofs.push_some.divide.Goals as goal

pub schema_columns-fields-requires : goal.schema_columns-fields-requires
schema_columns-fields-requires c =
    (omega arith, record { plan = c.requires.plan; is = plan_is c.args.plan c.requires.rests.placed.standing })

pub movable-side-requires : goal.movable-side-requires
movable-side-requires c =
    let h = c.requires.rests.placed in
    (omega arith, names_fit (c.schema_columns-fields.ensures c.requires.plan [] (plan_is c.args.plan h.standing) c.no_fields.ensures) (fields_few h))

pub select_side-requires-clause-len_le_max_fields : goal.select_side-requires-clause-len_le_max_fields
select_side-requires-clause-len_le_max_fields c =
    let h = c.requires.rests.placed in
    names_fit (c.schema_columns-fields.ensures c.requires.plan [] (plan_is c.args.plan h.standing) c.no_fields.ensures) (fields_few h)

pub returns : goal.returns
returns c =
    λ e q h. let i = plan_is c.args.plan h.placed.standing in
    let t = may_move (plan_tree q) in
    let f = c.schema_columns-fields.ensures q [] i c.no_fields.ensures in
    let m = rw i at (c.movable-side.ensures (schema q) f) in
    let o = split_cols (has (schema q)) e h.scope in
    let w = c.select_side.ensures (split_conjunction e) (schema q) t h.shaped.listed f o m in
    divides_of h.shaped t w.1 w.0
