use native.Mathlib.Omega.{arith}
use mathlib.Core.Path.{◌≡◌, refl, ap, ◌∙◌}
use Rattle.image.specs.Tree.{Tree}
use Rattle.image.proofs.Room.{wrote_one}
use Rattle.plan.specs.Syntax.{alias}
use Rattle.plan.specs.Schema.{schema}
use Rattle.plan.specs.Trees.{label_p, kids_p}
use Rattle.rewrite.specs.PushDownFilter.{rewrite_filter}
use Rattle.writing.proofs.Maps.{plan_is}
use Rattle.push_down_base.proofs.Answering.{answers}
use Rattle.push_down_base.proofs.LastChild.{last_here}
use Rattle.push_down_base.proofs.Steps.{alias_input}
use Rattle.push_down_arms.proofs.Renames.{alias_few, alias_wide, alias_lists, alias_last}
use Rattle.push_down_arms.proofs.subquery_alias.rewrite_subquery_alias.Goals as goal

pub schema_columns-from-requires : goal.schema_columns-from-requires
schema_columns-from-requires c =
    (omega arith, record { plan = _; is = plan_is c.args.plan c.requires.over_alias.rests.placed.standing })

pub copy_renamed-requires-clause-renaming : goal.copy_renamed-requires-clause-renaming
unfolding rewrite_filter schema
copy_renamed-requires-clause-renaming c =
    let o = c.requires.over_alias in
    let h = o.rests in
    let q = alias o.qualifier o.plan in
    let k = h.placed.standing in
    let w = last_here _ c.last_child.ensures c.unwrap_or-input.ensures in
    let n = alias_last w k in
    rw (w.image, n) (record {
      expr = o.expr;
      plan = o.plan;
      over = schema q;
      renamed = record {
        standing = alias_input h.placed.short k;
        names = c.schema_columns-from.ensures q _ (plan_is c.args.plan k) c.no_fields.ensures;
        wide = alias_wide h;
        few = alias_few h;
        most = c.changed_predicate-below.ensures.0;
        changed = λ σ. c.changed_predicate-below.ensures.1 _ σ o.expr h.shaped;
      };
    })

pub returns-clause-answers : goal.returns-clause-answers
unfolding rewrite_filter schema label_p kids_p
returns-clause-answers c =
    λ e i q h. let a = alias i q in
    let k = h.placed.standing in
    let w = last_here _ c.last_child.ensures c.unwrap_or-input.ensures in
    let n = alias_last w k in
    let l : c.label.result ≡ label_p a = c.label.ensures.label ∙ ap (λ (t : Tree). t.label) (plan_is c.args.plan k) in
    let v = c.copy_renamed.ensures.wrote e q (schema a) (rw (w.image, n) (record {
      standing = alias_input h.placed.short k;
      names = c.schema_columns-from.ensures a _ (plan_is c.args.plan k) c.no_fields.ensures;
      wide = alias_wide h;
      few = alias_few h;
      most = c.changed_predicate-below.ensures.0;
      changed = λ σ. c.changed_predicate-below.ensures.1 _ σ e h.shaped;
    })) in
    answers refl (alias_lists h) (wrote_one c.args.out.now.long (rw l at c.put.ensures.put) v)
