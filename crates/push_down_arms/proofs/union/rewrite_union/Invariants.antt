-- `union::rewrite_union` meets its contract. The loop's invariant: what is left of the inputs, each under its Filter, completes the output.
use Rattle.std.proofs.Common.{◌≡◌, ◌+◌, length}
use Rattle.image.specs.Limits.{max_below}
use Rattle.image.specs.Subtrees.{forest, places}
use Rattle.image.specs.Tree.{Deep}
use Rattle.plan.specs.Syntax.{Expr, Plans, union}
use Rattle.plan.specs.Schema.{schema}
use Rattle.writing.proofs.Entries.{Inside}
use Rattle.push_down_arms.proofs.Unions.{Inputs, Spread, SomeSpread}
use Rattle.push_down_arms.proofs.union.rewrite_union.Given as goal

abbrev pub invariant-loop-input : goal.invariant-loop-input
invariant-loop-input l =
    (l.out.bytes.ghost_name ≡ l.fn.out.bytes.ghost_name)
    × (length l.m ≡ length l.initial.m)
    × SomeSpread l.plan.image.now l.plan.number l.from l.below
    × Inside l.plan.image.now (places l.input-iterator)
    × Deep (forest l.input-iterator) max_below
    × ((e : Expr) (ps : Plans) → Spread l.plan.image.now l.plan.number l.from l.below e ps
    → Inputs (schema (union ps)) e ps l.initial.out.bytes.now l.initial.out.next (l.level + 1) l.out.bytes.now l.out.next (forest l.input-iterator))
