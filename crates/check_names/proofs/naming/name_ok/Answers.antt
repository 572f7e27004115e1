-- `naming::name_ok` meets its contract.
use mathlib.Core.Path.{sym, ◌∙◌}
use Rattle.plan.proofs.FieldSources.{is_joins}
use Rattle.image.specs.Subtrees.{tree_of}
use Rattle.check_fields.specs.Fields.{parts_over, inputs}
use Rattle.check_fields.specs.Scopes.{scope_at}
use Rattle.check_names.proofs.NameRule.{rule_beside, rule_held, rule_other, rule_known, rule_plan}
use Rattle.check_names.proofs.naming.name_ok.Goals as goal

pub returns-then-label-eq-COLUMN : goal.returns-then-label-eq-COLUMN
returns-then-label-eq-COLUMN g c =
    let l = c.label-label.ensures.label in
    λ known. rule_held (scope_at c.args.here) _ _ (rw l at c.if-label-eq-COLUMN.true) (rw l at c.held_in.ensures)

pub returns-then-not-is_plan : goal.returns-then-not-is_plan
returns-then-not-is_plan g c =
    let l = c.label-label.ensures.label in
    λ known. rule_other (scope_at c.args.here) _ _ (sym (rw l at c.is_plan.ensures) ∙ c.if-not-is_plan.true) (rw l at c.if-label-eq-COLUMN.false)

pub returns-then-not-known : goal.returns-then-not-known
returns-then-not-known g c =
    let l = c.label-label.ensures.label in
    let t = tree_of c.args.tree in
    λ known. rule_plan (scope_at c.args.here) t.label t.below (rw l at c.role_of-role.ensures) (sym (rw l at c.is_plan.ensures) ∙ c.if-not-is_plan.false)
    (rw c.children.ensures.is at (c.is_sound.ensures (parts_over t.label.kind (inputs t.below)) t.label.p))

pub returns-then-eq-gives_both : goal.returns-then-eq-gives_both
returns-then-eq-gives_both g c =
    let l = c.label-label.ensures.label in
    let t = tree_of c.args.tree in
    λ known. rule_beside (scope_at c.args.here) t.label t.below (rw l at c.role_of-role.ensures)
    (sym (rw l at c.is_plan.ensures) ∙ c.if-not-is_plan.false) (known c.if-not-known.false)
    (rw (is_joins c.role_of-role.result c.eq.ensures, c.gives_both.ensures, l) at c.if-eq-gives_both.true)
    (rw (c.children-then-eq-gives_both.ensures.is, l) at (c.is_sound_beside.ensures (parts_over t.label.kind (inputs t.below))))

pub returns : goal.returns
returns g c =
    let l = c.label-label.ensures.label in
    λ known. rule_known (scope_at c.args.here) _ _ (rw l at c.role_of-role.ensures)
    (sym (rw l at c.is_plan.ensures) ∙ c.if-not-is_plan.false) (known c.if-not-known.false)
    (rw (is_joins c.role_of-role.result c.eq.ensures, c.gives_both.ensures, l) at c.if-eq-gives_both.false)
