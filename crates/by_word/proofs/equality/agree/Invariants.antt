-- `equality::agree` meets its contract. The loop's invariant: the predicates are the same if the records that are left agree.
use Rattle.std.proofs.Common.{◌≡◌, ◌-◌, ◌*◌, ◌≤◌, ◌<◌, drop}
use Rattle.image.specs.Subtrees.{part_of, tree_of}
use Rattle.conjuncts.specs.Equality.{same}
use Rattle.by_word.specs.Equality.{agreeing}
use Rattle.by_word.proofs.equality.agree.Given as goal

abbrev pub invariant-loop-i : goal.invariant-loop-i
invariant-loop-i g l =
    (0 < l.i) × (l.i ≤ l.size)
    × (same (tree_of l.a) (tree_of l.b) ≡ agreeing (l.size - l.i) l.a.number (drop (32 * l.i) (part_of l.a)) l.b.number
    (drop (32 * l.i) (part_of l.b)))
