-- `table_scan::marked_fields` meets its contract. The loop's invariant: the set of the marked fields among those passed, and the others.
use mathlib.Core.Path.{◌≡◌}
use mathlib.Core.List.{List}
use Prim.Native.Nat.{ℕ}
use lib.ListN.{length, drop}
use Rattle.image.specs.Subtrees.{forest}
use Rattle.image.specs.Tree.{none}
use Rattle.plan.specs.Syntax.{Expr, Field, scan}
use Rattle.plan.specs.Trees.{each, field_label, nothing_below, label_e, kids_e}
use Rattle.push_down_base.specs.Arms.{Placed}
use Rattle.push_down_arms.proofs.Supported.{Passed}
use Rattle.push_down_arms.proofs.table_scan.marked_fields.Given as goal

abbrev pub invariant-loop-i : goal.invariant-loop-i
invariant-loop-i l =
    (t : ℕ) (fs : List Field) (es : List Expr) → (h : Placed l.plan.image.now l.plan.number (scan t fs es)) → l.fn.k ≡ length fs
    → Passed h l.set l.i × (forest l.fields ≡ each field_label nothing_below (drop l.i fs) (each label_e kids_e es none))
