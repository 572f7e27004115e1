-- `patterns::one_or_none` meets its contract.
use mathlib.Core.Path.{sym}
use Rattle.check_form.proofs.Patterned.{ends, perhaps_none, perhaps_one}
use Rattle.check_form.proofs.patterns.one_or_none.Goals as goal

pub returns-in-Some : goal.returns-in-Some
returns-in-Some g c = perhaps_one _ c.in-Some.ensures.is (sym (rw c.kind.ensures at c.of_sort.ensures)) (ends c.in-Some.others)

pub returns-in-None : goal.returns-in-None
returns-in-None g c = sym (perhaps_none _ c.in-None.ensures)
