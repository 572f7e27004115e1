use borrow.Author.Rules.{rules}
use mathlib.Core.Path.{◌≡◌}
use mathlib.Core.Bool.{true}
use lib.ListN.{get_or}
use Rattle.plan.specs.Columns.{on_cols}
use Rattle.plan.specs.Schema.{has}
use Rattle.conjuncts.specs.Items.{FALSE}
use Rattle.push_down_base.proofs.Selecting.{all_at}
use Rattle.push_down_base.proofs.parting.select_side.Goals as goal

pub returns : goal.returns
returns c =
    λ es ns t h k o m. c.partition.ensures _ es (on_cols t) h (record {
      tells = λ i n b lt item p. let over : on_cols (has ns) (get_or es i FALSE) ≡ true = all_at i o lt in search rules;
    })
