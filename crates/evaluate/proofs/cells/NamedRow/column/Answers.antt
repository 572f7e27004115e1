-- `cells::NamedRow::column` meets its contract.
use native.Mathlib.Omega.{arith}
use mathlib.Core.Path.{◌∙◌}
use Rattle.plan.specs.Syntax.{no_type, null}
use Rattle.evaluate.proofs.Rows.{look_place, lent_length}
use Rattle.evaluate.proofs.cells.NamedRow.column.Goals as goal

pub returns : goal.returns
returns c =
    record {
      right = c.cell.ensures.right;
      is = λ ns h l. record {
        type = c.cell.ensures.is.type ∙ rw (c.place_in.ensures ns h) (look_place no_type ns _ _ l);
        value = c.cell.ensures.is.value ∙ rw (c.place_in.ensures ns h)
            (look_place null ns _ _ (omega (
              arith,
              lent_length c.args.self.now.row.types.now c.args.self.now.row.values.now
                  c.args.self.now.row.marks.now,
            )));
      };
    }
