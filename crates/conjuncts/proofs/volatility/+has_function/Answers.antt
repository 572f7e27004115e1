use Rattle.std.proofs.Common.{rules}
use mathlib.Core.Path.{◌≡◌, sym, ap, ◌∙◌}
use mathlib.Core.Bool.{true, false}
use native.Mathlib.Omega.{arith}
use Rattle.image.specs.Tree.{size}
use Rattle.image.specs.Subtrees.{tree_of}
use Rattle.image.proofs.Subtrees.{goes, gone}
use Rattle.conjuncts.specs.Functions.{marked, fn_any, fn_in}
use Rattle.conjuncts.proofs.volatility.+has_function.Goals as goal

pub has_function-requires-whole : goal.has_function-requires-whole
has_function-requires-whole g t c =
    let g = goes c.loop-child.child-iterator c.next.new.self c.in-Some.child c.in-Some.ensures.steps in
    let k = c.loop-child.invariant in
    λ κs. (omega (arith, ap size g.is, k.1, c.decreases), search rules)

pub returns-then-has_function : goal.returns-then-has_function
returns-then-has_function g t c =
    let g = goes c.loop-child.child-iterator c.next.new.self c.in-Some.child c.in-Some.ensures.steps in
    let k = c.loop-child.invariant in
    let e : fn_in (marked c.args.asked) (tree_of c.in-Some.child) ≡ true = sym c.has_function.ensures ∙ c.if-has_function.true in
    sym (k.0 ∙ ap (fn_any (marked c.args.asked)) g.is ∙ rw e)

pub loop-child-preserved : goal.loop-child-preserved
loop-child-preserved g t c =
    let g = goes c.loop-child.child-iterator c.next.new.self c.in-Some.child c.in-Some.ensures.steps in
    let k = c.loop-child.invariant in
    let e : fn_in (marked c.args.asked) (tree_of c.in-Some.child) ≡ false = sym c.has_function.ensures ∙ c.if-has_function.false in
    (k.0 ∙ ap (fn_any (marked c.args.asked)) g.is ∙ rw e, omega (arith, ap size g.is, k.1))

pub returns : goal.returns
returns g t c =
    let k = c.loop-child.invariant in
    sym (k.0 ∙ ap (fn_any (marked c.args.asked)) (gone c.loop-child.child-iterator c.in-None.ensures.steps.0))
