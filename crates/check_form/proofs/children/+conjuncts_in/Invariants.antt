-- `children::conjuncts_in` meets its contract. The measure is how many trees there are. The loop's invariant: n conjuncts have been met.
use Prim.Native.Nat.{◌≤◌}
use Rattle.image.specs.Subtrees.{forest}
use Rattle.image.specs.Tree.{size}
use Rattle.plan.specs.Form.{conjuncts}
use Rattle.check_form.proofs.Counts.{Counted}
use Rattle.check_form.proofs.children.+conjuncts_in.Given as goal

abbrev pub decreases-conjuncts_in : goal.decreases-conjuncts_in
decreases-conjuncts_in g l = size (forest l.trees)

abbrev pub invariant-loop-tree : goal.invariant-loop-tree
invariant-loop-tree g l =
    (size (forest l.tree-iterator) ≤ size (forest l.trees)) × Counted conjuncts l.n (forest l.trees) (forest l.tree-iterator)
