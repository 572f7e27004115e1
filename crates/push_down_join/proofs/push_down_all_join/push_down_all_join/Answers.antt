use mathlib.Core.Path.{refl, sym, ◌∙◌}
use mathlib.Core.List.{◌++◌, map}
use native.Mathlib.Omega.{arith}
use lib.ListN.{length-map}
use Rattle.plan.specs.Schema.{schema}
use Rattle.plan.specs.Syntax.{Name, Expr, col}
use Rattle.plan.proofs.Bools.{no_yes}
use Rattle.rewrite.specs.PushDownFilter.{ren, push_down_all_join}
use Rattle.conjuncts.proofs.Standing.{plan_standing}
use Rattle.writing.proofs.Maps.{read_over}
use Rattle.push_down_base.proofs.Answering.{answers}
use Rattle.push_down_join.specs.Scopes.{swap}
use Rattle.push_down_join.proofs.JoinCounts.{fits_each, fits_few, few_fits, inputs_few}
use Rattle.push_down_join.proofs.JoinWritten.{asked, carries}
use Rattle.push_down_join.proofs.SideLists.{renames_swap}
use Rattle.push_down_join.proofs.push_down_all_join.push_down_all_join.Goals as goal

pub join_scope-sc-requires : goal.join_scope-sc-requires
join_scope-sc-requires c =
    let q = c.requires.join_between in (
      omega arith,
      record {
        kind = q.kind;
        lhs = q.lhs;
        rhs = q.rhs;
        keys = q.keys;
        condition = q.condition;
        is = plan_standing c.args.plan refl refl q.placed.standing;
        rules = q.placed.rules;
      },
    )

pub moves_of-v-requires : goal.moves_of-v-requires
unfolding push_down_all_join
moves_of-v-requires c =
    let q = c.requires.join_between in
    let sc = c.join_scope-sc.ensures q.kind q.lhs q.rhs q.keys q.condition (plan_standing c.args.plan refl refl q.placed.standing) q.placed.rules in
    (asked sc q.reads, asked sc q.reads_own)

pub returns-then-not-fits-clause-answers : goal.returns-then-not-fits-clause-answers
unfolding push_down_all_join
returns-then-not-fits-clause-answers c =
    λ k l r on f P G h q g p w.
    let sc = c.join_scope-sc.ensures k l r on f (plan_standing c.args.plan refl refl h.standing) h.rules in
    let ns = schema l ++ schema r in
    let σ : Name → Expr = λ x. col (ren ns (map (swap on) ns) x) in
    let v = c.moves_of-v.ensures k (schema l) (schema r) on P G σ (c.join_kind-kind.ensures k l r on f h) sc q g (renames_swap ns on) in
    record {
      flag = v.flag;
      fits = λ small. no_yes (sym c.if-not-fits.true ∙ (c.fits.ensures ∙ few_fits k l r on v p w small));
      over = λ many. (refl, refl);
    }

pub write_renames-requires : goal.write_renames-requires
unfolding push_down_all_join
write_renames-requires c =
    let q = c.requires.join_between in
    let sc = c.join_scope-sc.ensures q.kind q.lhs q.rhs q.keys q.condition (plan_standing c.args.plan refl refl q.placed.standing) q.placed.rules in
    (sc.most, omega (arith, sc.most, c.requires.map_room))

pub write_kept-requires-clause-carried : goal.write_kept-requires-clause-carried
unfolding push_down_all_join
write_kept-requires-clause-carried c =
    let q = c.requires.join_between in
    let sc = c.join_scope-sc.ensures q.kind q.lhs q.rhs q.keys q.condition (plan_standing c.args.plan refl refl q.placed.standing) q.placed.rules in
    let e = c.join_kind-kind.ensures q.kind q.lhs q.rhs q.keys q.condition q.placed in
    let ns = schema q.lhs ++ schema q.rhs in
    let σ : Name → Expr = λ x. col (ren ns (map (swap q.keys) ns) x) in
    let v =
    c.moves_of-v.ensures q.kind (schema q.lhs) (schema q.rhs) q.keys q.above q.own σ e sc q.reads q.reads_own (renames_swap ns q.keys) in
    let few = fits_each _ _ _ (sym c.fits.ensures ∙ c.if-not-fits.false) in
    record {
      kind = q.kind;
      lhs = q.lhs;
      rhs = q.rhs;
      keys = q.keys;
      condition = q.condition;
      above = q.above;
      own = q.own;
      mapping = σ;
      carries =
          carries q.placed
          (c.write_renames.ensures.maps ns (map (swap q.keys) ns) sc.names sc.to (sym (length-map ns (swap q.keys))) _ refl refl) sc v few;
    }

pub write_kept-requires-clause-over : goal.write_kept-requires-clause-over
write_kept-requires-clause-over c = read_over _ refl refl c.write_renames.ensures.stood (omega (arith, c.requires.arm))

pub returns-clause-answers : goal.returns-clause-answers
unfolding push_down_all_join
returns-clause-answers c =
    λ k l r on f P G h q g p w.
    let sc = c.join_scope-sc.ensures k l r on f (plan_standing c.args.plan refl refl h.standing) h.rules in
    let ns = schema l ++ schema r in
    let σ : Name → Expr = λ x. col (ren ns (map (swap on) ns) x) in
    let v = c.moves_of-v.ensures k (schema l) (schema r) on P G σ (c.join_kind-kind.ensures k l r on f h) sc q g (renames_swap ns on) in
    let few = fits_each _ _ _ (sym c.fits.ensures ∙ c.if-not-fits.false) in
    let below = inputs_few k l r on f h.lists in
    answers v.flag (fits_few k l r on v p w below.0 below.1 few.0 few.1 few.2)
    (c.write_kept.ensures.wrote k l r on f P G σ
    (carries h (c.write_renames.ensures.maps ns (map (swap on) ns) sc.names sc.to (sym (length-map ns (swap on))) _ refl refl) sc v few))
