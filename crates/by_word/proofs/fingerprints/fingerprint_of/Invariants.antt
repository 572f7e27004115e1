-- `fingerprints::fingerprint_of` meets its contract. The loop's invariant: with the records that are left, it is that of the expression.
use Rattle.std.proofs.Common.{◌≡◌, ◌+◌, ◌-◌, ◌*◌, ◌≤◌, ◌<◌, drop}
use Rattle.image.specs.Flat.{size_t}
use Rattle.image.specs.Subtrees.{tree_of}
use Rattle.plan.specs.Syntax.{Expr}
use Rattle.plan.specs.Trees.{expr_tree}
use Rattle.by_word.specs.Fingerprints.{fingerprint}
use Rattle.by_word.proofs.Printing.{mixed_for}
use Rattle.by_word.proofs.fingerprints.fingerprint_of.Given as goal

abbrev pub invariant-loop-i : goal.invariant-loop-i
invariant-loop-i l =
    (0 < l.i) × (l.i ≤ size_t (tree_of l.tree)) × (l.h < 4294967296)
    × ((e : Expr) → tree_of l.tree ≡ expr_tree e
    → mixed_for l.h (size_t (tree_of l.tree) - l.i) (drop (32 * (l.tree.number + l.i)) l.tree.image.now) ≡ fingerprint e)
