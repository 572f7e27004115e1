-- `form::bad_root_form` meets its contract.
use mathlib.Core.Path.{sym, ◌∙◌}
use Rattle.image.specs.Subtrees.{tree_of}
use Rattle.check_form.specs.Sorts.{sort_of}
use Rattle.check_form.proofs.Rooting.{no_plan, bad_root, root_good}
use Rattle.check_form.proofs.form.bad_root_form.Goals as goal

pub returns-then-not-of_sort : goal.returns-then-not-of_sort
unfolding sort_of
returns-then-not-of_sort c = no_plan _ (sym (rw c.kind-kind.ensures at c.of_sort.ensures) ∙ c.if-not-of_sort.true)

pub returns-then-not-form_ok : goal.returns-then-not-form_ok
unfolding sort_of
returns-then-not-form_ok c =
    let form = rw c.children-children.ensures.is at (c.form_ok.ensures (tree_of c.args.root).label c.kind-kind.ensures) in
    bad_root _ (sym (rw c.kind-kind.ensures at c.of_sort.ensures) ∙ c.if-not-of_sort.false) (sym form ∙ c.if-not-form_ok.true)

pub returns : goal.returns
unfolding sort_of
returns c =
    let form = rw c.children-children.ensures.is at (c.form_ok.ensures (tree_of c.args.root).label c.kind-kind.ensures) in
    (rw c.children-children.ensures.is at c.bad_form.ensures)
    ∙ root_good _ (sym (rw c.kind-kind.ensures at c.of_sort.ensures) ∙ c.if-not-of_sort.false) (sym form ∙ c.if-not-form_ok.false) _
    (rw c.requires at c.children-children.ensures.first)
