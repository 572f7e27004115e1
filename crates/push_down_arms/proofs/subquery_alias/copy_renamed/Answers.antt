use mathlib.Core.Path.{refl}
use native.Mathlib.Omega.{arith}
use Rattle.plan.specs.Syntax.{Name, Expr, col}
use Rattle.plan.specs.Schema.{schema}
use Rattle.rewrite.specs.Utils.{replace_cols}
use Rattle.rewrite.specs.PushDownFilter.{ren, renamed}
use Rattle.utils.proofs.Named.{names_fit}
use Rattle.writing.proofs.Maps.{plan_is, plan_deep, read_over}
use Rattle.push_down_arms.proofs.Renames.{whole_left}
use Rattle.push_down_arms.proofs.subquery_alias.copy_renamed.Goals as goal

pub schema_columns-to-requires : goal.schema_columns-to-requires
schema_columns-to-requires c =
    let o = c.requires.renaming in
    (omega arith, record { plan = o.plan; is = plan_is c.args.input o.renamed.standing })

pub write_renames-requires : goal.write_renames-requires
write_renames-requires c =
    let n = names_fit c.requires.renaming.renamed.names c.requires.renaming.renamed.few in
    (n, omega (arith, n, c.requires.map_room))

pub invariant_of-map : goal.invariant_of-map
invariant_of-map c = let r = c.write_renames.ensures.stood in record { past = omega arith; stood = record { tree = r.tree; at = r.at } }

pub make_filter-requires : goal.make_filter-requires
make_filter-requires c =
    let o = c.requires.renaming in
    let h = o.renamed in
    let σ : Name → Expr = λ x. col (ren o.over (schema o.plan) x) in
    (omega arith, (omega arith, (record { mapping = σ; expr = replace_cols σ o.expr; predicate = whole_left (h.changed σ); most = h.most }, (read_over _ refl refl c.write_renames.ensures.stood (omega (arith, c.requires.shallow)), plan_deep c.args.input c.requires.renaming.renamed.standing))))

pub returns-clause-wrote : goal.returns-clause-wrote
unfolding renamed
returns-clause-wrote c =
    λ e q ns h. let i = plan_is c.args.input h.standing in
    let to = c.schema_columns-to.ensures q _ i c.no_fields.ensures in
    let σ : Name → Expr = λ x. col (ren ns (schema q) x) in
    c.make_filter.ensures.wrote σ (c.write_renames.ensures.maps ns (schema q) h.names to h.wide _ refl refl) (replace_cols σ e)
    (whole_left (h.changed σ)) q i
