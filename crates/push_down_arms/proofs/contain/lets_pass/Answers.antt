use mathlib.Core.Path.{◌≡◌, sym, ap, ◌∙◌}
use mathlib.Core.Bool.{true, false, not}
use Rattle.image.specs.Subtrees.{tree_of}
use Rattle.utils.specs.Fields.{named}
use Rattle.writing.specs.Replaced.{is_entry}
use Rattle.push_down_arms.proofs.Moves.{lets_window, lets_other}
use Rattle.push_down_arms.proofs.contain.lets_pass.Goals as goal

pub returns-then-kind-eq-WINDOW_ENTRY : goal.returns-then-kind-eq-WINDOW_ENTRY
returns-then-kind-eq-WINDOW_ENTRY g c =
    c.has_partition.ensures ∙ sym (lets_window _ (tree_of c.args.part) (sym c.kind.ensures ∙ c.if-kind-eq-WINDOW_ENTRY.true))

pub returns-then-is_entry : goal.returns-then-is_entry
returns-then-is_entry g c =
    let t = tree_of c.args.part in
    let e : is_entry t.label c.args.c.q c.args.c.n ≡ true =
    rw (c.wide.ensures.0, c.wide-2.ensures.0) at (sym c.is_entry.ensures ∙ c.if-is_entry.true) in
    ap not c.is_fixed.ensures
    ∙ sym (lets_other (named c.args.c) t (λ z. c.if-kind-eq-WINDOW_ENTRY.false (c.kind.ensures ∙ z)) true e)

pub returns : goal.returns
returns g c =
    let t = tree_of c.args.part in
    let e : is_entry t.label c.args.c.q c.args.c.n ≡ false =
    rw (c.wide.ensures.0, c.wide-2.ensures.0) at (sym c.is_entry.ensures ∙ c.if-is_entry.false) in
    sym (lets_other (named c.args.c) t (λ z. c.if-kind-eq-WINDOW_ENTRY.false (c.kind.ensures ∙ z)) false e)
