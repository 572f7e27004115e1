use native.Mathlib.Omega.{arith}
use Rattle.image.specs.Subtrees.{tree_of}
use Rattle.image.proofs.Subtrees.{goes, gone}
use Rattle.check_form.proofs.Counts.{one_is, exprs_few, exprs_none, exprs_step, count_on, count_room, count_end}
use Rattle.check_form.proofs.children.exprs_in.Goals as goal

pub overflow_add-n : goal.overflow_add-n
overflow_add-n g c =
    let g = goes c.loop-tree.tree-iterator c.next.new.self c.in-Some.tree c.in-Some.ensures.steps in
    let k = count_on c.loop-tree.invariant _ _ (exprs_step g.is (one_is (tree_of c.in-Some.tree).label c.one_if-n.ensures c.of_sort.ensures c.kind.ensures)) in
    omega (arith, count_room c.args.trees k (exprs_few _))

pub loop-tree-preserved : goal.loop-tree-preserved
loop-tree-preserved g c =
    let g = goes c.loop-tree.tree-iterator c.next.new.self c.in-Some.tree c.in-Some.ensures.steps in
    count_on c.loop-tree.invariant _ _ (exprs_step g.is (one_is (tree_of c.in-Some.tree).label c.one_if-n.ensures c.of_sort.ensures c.kind.ensures))

pub returns : goal.returns
returns g c = count_end c.loop-tree.invariant (exprs_none _ (gone c.loop-tree.tree-iterator c.in-None.ensures.steps.0))
