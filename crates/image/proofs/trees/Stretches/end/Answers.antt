-- `trees::Stretches::end` meets its contract.
use mathlib.Core.Path.{sym, ap}
use native.Mathlib.Omega.{arith}
use Rattle.image.specs.Tree.{size}
use Rattle.image.proofs.Subtrees.{all_items, last_none, last_some}
use Rattle.image.proofs.trees.Stretches.end.Goals as goal

pub end-requires : goal.end-requires
end-requires g c =
    let x = c.args.self in
    let ran = c.in-Some.ensures.ran in
    let last = last_some x ran.0 (all_items x ran.0 ran.1) (sym ran.2) in omega (arith, last.base, c.requires)

pub returns-in-Some : goal.returns-in-Some
returns-in-Some g c =
    let x = c.args.self in
    let ran = c.in-Some.ensures.ran in
    let last = last_some x ran.0 (all_items x ran.0 ran.1) (sym ran.2) in
    omega (arith, c.end.ensures, last.end)

pub returns-in-None : goal.returns-in-None
returns-in-None g c =
    let x = c.args.self in
    let ran = c.in-None.ensures.ran in
    let none = last_none x ran.0 (all_items x ran.0 ran.1) (sym ran.2) in
    omega (arith, ap size none)
