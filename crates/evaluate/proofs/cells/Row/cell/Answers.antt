-- `cells::Row::cell` meets its contract.
use mathlib.Core.Path.{sym, ◌∙◌}
use lib.IntN.{pos}
use lib.ListN.{length}
use Rattle.plan.proofs.Rights.{right_null, valued_null}
use Rattle.evaluate.proofs.Rows.{lent_at, lent_short, first, short_by, long_by, marked_null, unmarked, held, none_there}
use borrow.Author.Rules.{rules}
use Rattle.evaluate.proofs.cells.Row.cell.Goals as goal

pub returns-then-self-i : goal.returns-then-self-i
returns-then-self-i c =
    let e = c.null_of.ensures in record {
      right = right_null e;
      is = valued_null e (none_there _ c.args.self.now.types.now _ c.if-self-i.true)
          (lent_short _ _ _ _ (first c.if-self-i.true));
    }

pub returns-then-self-i-2 : goal.returns-then-self-i-2
returns-then-self-i-2 c =
    let e = c.null_of-then-self-i-2.ensures in
    record { right = right_null e; is = valued_null e (search rules) (lent_short _ _ _ _ (short_by c.if-self-i-2.true)) }

pub returns-then-self-i-eq-NULL : goal.returns-then-self-i-eq-NULL
returns-then-self-i-eq-NULL c =
    let e = c.null_of-then-self-i-eq-NULL.ensures in
    let h = long_by c.args.i
    (length c.args.self.now.values.now)
    (length c.args.self.now.marks.now) c.if-self-i-2.false in record {
      right = right_null e;
      is = valued_null e (search rules) (marked_null _ _ _ c.if-self-i-eq-NULL.true
          ∙ sym (lent_at (pos 0) _ _ _ _ c.if-self-i.false h.0 h.1));
    }

pub returns : goal.returns
returns c =
    let h = long_by c.args.i
    (length c.args.self.now.values.now)
    (length c.args.self.now.marks.now)
    c.if-self-i-2.false in record {
      right = c.cell_of.ensures.right;
      is = record {
        type = c.cell_of.ensures.is.type ∙ search rules;
        value = c.cell_of.ensures.is.value ∙ held _ (search rules) (unmarked _ _ _ c.if-self-i-eq-NULL.false ∙ sym
            (lent_at (pos 0) _ _ _ _ c.if-self-i.false h.0 h.1));
      };
    }
