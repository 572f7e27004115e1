-- `children::exprs_in` meets its contract. The loop's invariant: n expressions have been met.
use Rattle.image.specs.Subtrees.{forest}
use Rattle.plan.specs.Form.{exprs_in}
use Rattle.check_form.proofs.Counts.{Counted}
use Rattle.check_form.proofs.children.exprs_in.Given as goal

abbrev pub invariant-loop-tree : goal.invariant-loop-tree
invariant-loop-tree g l = Counted exprs_in l.n (forest l.trees) (forest l.tree-iterator)
