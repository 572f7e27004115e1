-- `table_scan::scan_filters` meets its contract. The loop's invariant: what is listed, and then the filters that are left, are all.
use mathlib.Core.List.{List}
use Prim.Native.Nat.{ℕ}
use Rattle.image.specs.Limits.{max_below}
use Rattle.image.specs.Subtrees.{forest, places}
use Rattle.image.specs.Tree.{Deep}
use Rattle.plan.specs.Syntax.{Expr, Field, scan}
use Rattle.writing.proofs.Entries.{Inside}
use Rattle.push_down_base.specs.Arms.{Placed}
use Rattle.push_down_arms.proofs.Scans.{Filters}
use Rattle.push_down_arms.proofs.table_scan.scan_filters.Given as goal

abbrev pub invariant-loop-child : goal.invariant-loop-child
invariant-loop-child l =
    Inside l.plan.image.now (places l.child-iterator)
    × Deep (forest l.child-iterator) max_below
    × ((t : ℕ) (fs : List Field) (es : List Expr) → Placed l.plan.image.now l.plan.number (scan t fs es)
    → Filters l.plan.image.now l.r es (forest l.child-iterator))
