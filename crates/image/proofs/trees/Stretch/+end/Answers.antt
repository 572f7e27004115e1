use mathlib.Core.Path.{◌≡◌, sym, ap, ◌∙◌}
use native.Mathlib.Omega.{arith}
use Rattle.std.proofs.Common.{rules}
use Prim.Native.Nat.{◌+◌, ◌*◌, ◌<◌, ◌^◌}
use Rattle.image.specs.Places.{start}
use Rattle.image.specs.Tree.{size}
use Rattle.image.proofs.Subtrees.{all_items, last_none, last_some, link_of}
use Rattle.image.proofs.trees.Stretch.+end.Goals as goal

pub end-requires-whole : goal.end-requires-whole
end-requires-whole g t c =
    let x = c.children.result in
    let ran = c.in-Some.ensures.ran in
    let all = all_items x ran.0 ran.1 in
    let last = last_some x ran.0 all (sym ran.2) in
    let b = c.children.ensures in
    let few : 32 * start g.row.N c.in-Some.child.base < 2 ^ 63 = omega (arith, last.base ∙ b.base, c.requires) in
    λ κs. (omega (arith, last.fewer, ap size b.is, c.decreases), search rules)

pub returns-in-Some : goal.returns-in-Some
returns-in-Some g t c =
    let x = c.children.result in
    let ran = c.in-Some.ensures.ran in
    let all = all_items x ran.0 ran.1 in
    let last = last_some x ran.0 all (sym ran.2) in
    let first : x.first ≡ c.args.self.number + 1 = c.children.ensures.first ∙ link_of _ c.args.self.stood.tree.below (omega (arith, last.fewer, ap size c.children.ensures.is)) in
    omega (arith, c.end.ensures, last.end, ap size c.children.ensures.is)

pub returns-in-None : goal.returns-in-None
returns-in-None g t c =
    let x = c.children.result in
    let ran = c.in-None.ensures.ran in
    let all = all_items x ran.0 ran.1 in
    let none = last_none x ran.0 all (sym ran.2) in
    omega (arith, ap size (sym c.children.ensures.is ∙ none))
