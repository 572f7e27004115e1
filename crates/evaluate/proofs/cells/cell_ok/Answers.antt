-- `cells::cell_ok` meets its contract.
use borrow.Author.Tests.{lt-leb, ne_eqb}
use Rattle.plan.specs.Lists.{◌&◌}
use Rattle.rewrite.specs.RowTest.{cell_ok}
use Rattle.evaluate.proofs.Rows.{past_one}
use borrow.Author.Rules.{rules}
use Rattle.evaluate.proofs.cells.cell_ok.Goals as goal

pub returns-then-mark-eq-NULL : goal.returns-then-mark-eq-NULL
unfolding ◌&◌ cell_ok
returns-then-mark-eq-NULL c =
    rw c.if-mark-eq-NULL.true

pub returns-then-mark-ne-HELD : goal.returns-then-mark-ne-HELD
unfolding ◌&◌ cell_ok
returns-then-mark-ne-HELD c =
    rw (lt-leb _ 1 (past_one c.if-mark-eq-NULL.false c.if-mark-ne-HELD.true))

pub returns-then-ty-eq-BOOLEAN : goal.returns-then-ty-eq-BOOLEAN
unfolding ◌&◌ cell_ok
returns-then-ty-eq-BOOLEAN c =
    rw (c.if-mark-ne-HELD.false, c.if-ty-eq-BOOLEAN.true) (search rules)

pub returns : goal.returns
unfolding ◌&◌ cell_ok
returns c =
    rw (c.if-mark-ne-HELD.false, ne_eqb _ _ c.if-ty-eq-BOOLEAN.false)
