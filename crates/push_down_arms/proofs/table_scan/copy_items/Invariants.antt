-- `table_scan::copy_items` meets its contract. The loop's invariant: what is written, and then the items that are left, are all.
use mathlib.Core.Path.{◌≡◌}
use mathlib.Core.List.{List}
use Rattle.plan.specs.Syntax.{Expr}
use Rattle.conjuncts.specs.Items.{Lists}
use Rattle.push_down_arms.proofs.Scans.{Copied}
use Rattle.push_down_arms.proofs.table_scan.copy_items.Given as goal

abbrev pub invariant-loop-n : goal.invariant-loop-n
invariant-loop-n l =
    (l.out.bytes.ghost_name ≡ l.fn.out.bytes.ghost_name)
    × ((es : List Expr) → Lists l.plan.image.now l.fn.c es
    → Copied l.fn.out.bytes.now l.fn.out.next l.level es l.out.bytes.now l.out.next l.n-index)
