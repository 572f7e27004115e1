-- `input::resume` meets its contract.
use mathlib.Core.Path.{refl, sym, ◌∙◌}
use native.Mathlib.Omega.{arith}
use Rattle.writing.proofs.Maps.{deep_low, plan_deep, plan_is}
use Rattle.push_down_base.proofs.Answering.{answers}
use Rattle.push_down_merge.proofs.OneMerge.{leaves_none}
use Rattle.push_down_rewrite.proofs.Again.{left_on}
use Rattle.push_down_rewrite.proofs.input.resume.Goals as goal

pub copy_tree-requires : goal.copy_tree-requires
copy_tree-requires c =
    (omega arith, deep_low _ (omega (arith, c.requires.arm)) (plan_deep c.args.input c.requires.some_left.left.placed.standing))

pub returns-then-is_gone-clause-answers : goal.returns-then-is_gone-clause-answers
returns-then-is_gone-clause-answers c =
    λ o q h. rw (leaves_none h.remains (sym c.is_gone.ensures ∙ c.if-is_gone.true))
    (answers refl h.placed.lists (rw (plan_is c.args.input h.placed.standing) at c.copy_tree.ensures.wrote))

pub rewrite_input-requires-clause-on_input : goal.rewrite_input-requires-clause-on_input
rewrite_input-requires-clause-on_input c =
    let l = left_on c.requires.some_left.left (sym c.is_gone.ensures ∙ c.if-is_gone.false) in
    record { expr = l.expr; plan = c.requires.some_left.plan; rests = l.rests; other = l.other }

pub returns-clause-answers : goal.returns-clause-answers
returns-clause-answers c =
    λ o q h. let l = left_on h (sym c.is_gone.ensures ∙ c.if-is_gone.false) in
    rw l.is (c.rewrite_input.ensures.answers l.expr q l.rests l.other)
