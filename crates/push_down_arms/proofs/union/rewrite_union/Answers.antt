use native.Mathlib.Omega.{arith}
use mathlib.Core.Path.{refl, ap, ◌∙◌}
use borrow.Author.Rules.{rules}
use Rattle.image.specs.Subtrees.{forest}
use Rattle.image.specs.Tree.{Tree}
use Rattle.image.proofs.Subtrees.{goes, gone}
use Rattle.plan.specs.Syntax.{union}
use Rattle.plan.specs.Schema.{schema}
use Rattle.rewrite.specs.PushDownFilter.{rewrite_filter}
use Rattle.writing.proofs.Entries.{inside, inside_step}
use Rattle.writing.proofs.Maps.{plan_is, plan_deep}
use Rattle.push_down_base.proofs.Answering.{answers}
use Rattle.push_down_arms.proofs.Behind.{deep_goes}
use Rattle.push_down_arms.proofs.Trees.{tree_at}
use Rattle.push_down_arms.proofs.Unions.{spread_of, all_inputs, first, renames_first, renamed_in, more, none_more, union_lists, union_wrote}
use Rattle.push_down_arms.proofs.union.rewrite_union.Goals as goal

pub schema_columns-from-requires : goal.schema_columns-from-requires
schema_columns-from-requires c =
    (omega arith, record { plan = _; is = plan_is c.args.plan c.requires.over_union.rests.placed.standing })

pub loop-input-init : goal.loop-input-init
loop-input-init c =
    let o = c.requires.over_union in
    let h = o.rests in
    let i = c.into_iter-input-iterator.ensures.into_iter_gives in
    let b = c.children-input-items.ensures in
    let e = ap forest i ∙ b.is in (
      c.put.ensures.same,
      refl,
      record {
        expr = o.expr;
        inputs = o.inputs;
        spread = spread_of h (c.schema_columns-from.ensures (union o.inputs) _ (plan_is c.args.plan h.placed.standing) c.no_fields.ensures)
            c.changed_predicate-below.ensures.0
            (λ σ. c.changed_predicate-below.ensures.1 _ σ o.expr h.shaped);
      },
      inside c.into_iter-input-iterator.result (ap (λ x. x.image.now) i ∙ b.image),
      rw e (plan_deep c.args.plan h.placed.standing),
      λ f ps w. rw (e, ap (λ (t : Tree). t.below) (plan_is c.args.plan w.standing)) (all_inputs w c.args.out.now.long c.put.ensures.put),
    )

pub copy_renamed-requires-clause-renaming : goal.copy_renamed-requires-clause-renaming
copy_renamed-requires-clause-renaming c =
    let k = c.loop-input.invariant in
    let x = c.loop-input.input-iterator in
    let y = c.next.new.self in
    let t = c.in-Some.input in
    let steps = c.in-Some.ensures.steps in
    let g = goes x y t steps in
    let w = k.2 in
    let here = (inside_step x y t steps k.3).0 in
    let f = first _ _ _ (rw g.is at (k.5 w.expr w.inputs w.spread)) in
    record {
      expr = w.expr;
      plan = f.plan;
      over = schema (union w.inputs);
      renamed = renamed_in here (renames_first w.spread t.number f (tree_at t here) (deep_goes g.is k.4).0);
    }

pub loop-input-preserved : goal.loop-input-preserved
loop-input-preserved c =
    let k = c.loop-input.invariant in
    let x = c.loop-input.input-iterator in
    let y = c.next.new.self in
    let t = c.in-Some.input in
    let steps = c.in-Some.ensures.steps in
    let g = goes x y t steps in
    let here = inside_step x y t steps k.3 in
    let deep = deep_goes g.is k.4 in (
      c.copy_renamed.ensures.same ∙ k.0,
      search rules,
      k.2,
      here.1,
      deep.1,
      λ e ps h. let f = first _ _ _ (rw g.is at (k.5 e ps h)) in
          more f (c.copy_renamed.ensures.wrote e f.plan (schema (union ps)) (renamed_in here.0 (renames_first h t.number f (tree_at t here.0) deep.0))),
    )

pub returns-clause-answers : goal.returns-clause-answers
unfolding rewrite_filter
returns-clause-answers c =
    λ e ps h. let w = spread_of h (c.schema_columns-from.ensures (union ps) _ (plan_is c.args.plan h.placed.standing) c.no_fields.ensures)
    c.changed_predicate-below.ensures.0
    (λ σ. c.changed_predicate-below.ensures.1 _ σ e h.shaped) in
    let all = rw (gone c.loop-input.input-iterator c.in-None.ensures.steps.0) at (c.loop-input.invariant.5 e ps w) in
    answers refl (union_lists h)
    (union_wrote e ps c.args.out.now.long c.put.ensures.put (c.label.ensures.label ∙ ap (λ (t : Tree). t.label) (plan_is c.args.plan h.placed.standing))
    (none_more all))
