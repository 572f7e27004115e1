use borrow.Author.Rules.{rules}
use Rattle.rewrite.specs.Utils.{is_volatile_expr}
use Rattle.push_down_arms.proofs.table_scan.part_volatile.Goals as goal

pub returns : goal.returns
returns c =
    λ es h. c.partition.ensures _ es (λ e. is_volatile_expr e) h (record { tells = λ i n b lt item p. search rules })
