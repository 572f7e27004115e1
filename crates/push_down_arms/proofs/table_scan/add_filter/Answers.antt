-- `table_scan::add_filter` meets its contract: no expression's record has the kind of a field.
use mathlib.Core.Path.{sym, ap, ◌∙◌}
use native.Mathlib.Omega.{arith}
use borrow.Author.Tests.{eqb-false}
use Rattle.image.specs.Tree.{Label}
use Rattle.plan.proofs.Written.{no_part_e}
use Rattle.conjuncts.proofs.Listed.{lists_add}
use Rattle.push_down_arms.proofs.table_scan.add_filter.Goals as goal

pub returns-then-kind-eq-FIELD : goal.returns-then-kind-eq-FIELD
returns-then-kind-eq-FIELD c =
    λ s ds h. record {
      field = λ k. h;
      filter = λ e l i. absurd (eqb-false _ 48 (no_part_e e 48 (omega arith))
          (sym (c.kind.ensures ∙ ap (λ (k : Label). k.kind) l) ∙ c.if-kind-eq-FIELD.true));
    }

pub returns : goal.returns
returns c =
    λ s ds h. record {
      field = λ k. absurd (c.if-kind-eq-FIELD.false (c.kind.ensures ∙ k));
      filter = λ e l i. lists_add _ h i c.add.ensures;
    }
