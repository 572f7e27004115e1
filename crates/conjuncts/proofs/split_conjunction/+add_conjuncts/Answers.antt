use mathlib.Core.Path.{refl, sym, ap, ◌∙◌}
use mathlib.Core.List.{append_assoc}
use native.Mathlib.Omega.{arith}
use Prim.Native.Nat.{◌+◌, ◌≤◌, ◌<◌}
use Rattle.std.proofs.Common.{rules}
use lib.ListN.{length}
use Rattle.rewrite.specs.Utils.{split_conjunction}
use Rattle.image.specs.Flat.{size_t}
use Rattle.image.specs.Limits.{max_records, work_bytes}
use Rattle.image.specs.Places.{ending}
use Rattle.image.specs.Subtrees.{tree_of}
use Rattle.image.specs.Tree.{Tree}
use Rattle.image.proofs.Subtrees.{ending_same, tree_within}
use Rattle.conjuncts.specs.Labels.{is_and}
use Rattle.conjuncts.proofs.Operands.{and_in, fewer_left, fewer_right, item_of, left_is, right_is, single}
use Rattle.conjuncts.proofs.Listed.{lists_add}
use Rattle.conjuncts.proofs.split_conjunction.+add_conjuncts.Goals as goal

pub add_conjuncts-requires-whole : goal.add_conjuncts-requires-whole
add_conjuncts-requires-whole g t c =
    let k = c.in-Some.ensures in
    let p = c.requires in
    let x = c.in-Some.left in
    let same = ending_same g.row.N x.base c.args.tree.base _ _ k.1.left_base (ap length k.1.left_image) in
    let expr = left_is k.0 k.1 p.expr in
    let behind : 0 < x.number = omega (arith, k.1.left) in
    let short : ending g.row.N x.base (length x.image.now) ≤ work_bytes = omega (arith, same, p.image_bound) in
    λ κs. (omega (arith, fewer_left k.0 k.1, c.decreases), search rules)

pub add_conjuncts-requires-in-Some-whole : goal.add_conjuncts-requires-in-Some-whole
add_conjuncts-requires-in-Some-whole g t c =
    let k = c.in-Some.ensures in
    let p = c.requires in
    let x = c.in-Some.right in
    let same = ending_same g.row.N x.base c.args.tree.base _ _ k.1.right_base (ap length k.1.right_image) in
    let expr = right_is k.0 k.1 p.expr in
    let behind : 0 < x.number = omega (arith, k.1.right) in
    let short : ending g.row.N x.base (length x.image.now) ≤ work_bytes = omega (arith, same, p.image_bound) in
    λ κs. (omega (arith, fewer_right k.0 k.1, c.decreases), search rules)

pub returns-in-Some : goal.returns-in-Some
unfolding split_conjunction
returns-in-Some g t c =
    λ s e es is h l. let k = c.in-Some.ensures in
    let most : c.args.tree.number + size_t (tree_of c.args.tree) ≤ max_records = omega (arith, tree_within c.args.tree, c.requires.image_bound) in
    let u = and_in k.0 k.1 is most h in
    rw (ap split_conjunction u.is, ← append_assoc)
    (c.add_conjuncts-in-Some.ensures s u.rhs _ u.right_is u.right (c.add_conjuncts.ensures s u.lhs es u.left_is u.left l))

pub returns-in-None : goal.returns-in-None
returns-in-None g t c =
    λ s e es is h l. let q = ap (λ (u : Tree). is_and u.label) is in
    rw (single e (sym q ∙ c.in-None.ensures)) (lists_add _ l (item_of h c.requires.number_nonzero) c.push.ensures)
