use Rattle.std.proofs.Common.{rules}
use mathlib.Core.Path.{refl, sym, ap, ◌∙◌}
use Prim.Native.Nat.{ℕ}
use native.Mathlib.Omega.{arith}
use Rattle.std.proofs.Common.{Some}
use Rattle.image.specs.Lowest.{alone}
use Rattle.image.specs.Subtrees.{tree_of}
use Rattle.image.specs.Tree.{size}
use Rattle.image.proofs.Finding.{place_none, place_here, place_below, place_after}
use Rattle.image.proofs.Subtrees.{goes, gone}
use Rattle.plan.proofs.Turns.{next_is}
use Rattle.check_fields.specs.Rules.{type_ok, hand}
use Rattle.check_fields.specs.Scopes.{scope_at}
use Rattle.check_types.proofs.Turning.{rule_of}
use Rattle.check_types.proofs.walk.+bad_type.Goals as goal

pub bad_type-below-requires-whole : goal.bad_type-below-requires-whole
bad_type-below-requires-whole g t c =
    let g = goes c.loop-tree.tree-iterator c.next.new.self c.in-Some.tree c.in-Some.ensures.steps in
    let held = c.requires in
    λ κs. (omega (arith, ap size g.is, ap size c.children.ensures.is, c.loop-tree.invariant.0, c.decreases), search rules)

pub returns-then-not-type_ok : goal.returns-then-not-type_ok
returns-then-not-type_ok g t c =
    let x = c.loop-tree.tree-iterator in
    let g = goes x c.next.new.self c.in-Some.tree c.in-Some.ensures.steps in
    let u = alone (tree_of c.args.root) in
    ap (λ (n : ℕ). Some n) g.number
    ∙ place_here (type_ok u) hand x.first g.is refl refl (scope_at c.loop-tree.over) (scope_at c.args.after) _ _ c.hand-handed.ensures
    (rule_of u _ _ _ _ _ c.hand-handed.ensures c.type_ok.ensures) c.if-not-type_ok.true
    ∙ c.loop-tree.invariant.1

pub returns-then-is_some : goal.returns-then-is_some
returns-then-is_some g t c =
    let x = c.loop-tree.tree-iterator in
    let g = goes x c.next.new.self c.in-Some.tree c.in-Some.ensures.steps in
    let u = alone (tree_of c.args.root) in
    place_below (type_ok u) hand x.first g.is (rw g.number at c.children.ensures.first) refl (scope_at c.loop-tree.over) (scope_at c.args.after) _ _
    c.hand-handed.ensures (rule_of u _ _ _ _ _ c.hand-handed.ensures c.type_ok.ensures) c.if-not-type_ok.false _
    (sym c.is_some.ensures ∙ c.if-is_some.true) (rw c.children.ensures.is at c.bad_type-below.ensures)
    ∙ c.loop-tree.invariant.1

pub loop-tree-preserved : goal.loop-tree-preserved
loop-tree-preserved g t c =
    let x = c.loop-tree.tree-iterator in
    let g = goes x c.next.new.self c.in-Some.tree c.in-Some.ensures.steps in
    let u = alone (tree_of c.args.root) in (
      omega (arith, ap size g.is, c.loop-tree.invariant.0),
      place_after (type_ok u) hand x.first g.is (rw g.number at c.children.ensures.first)
          (next_is x c.next.new.self c.in-Some.tree c.in-Some.ensures.steps) (scope_at c.loop-tree.over) (scope_at c.args.after) _ _
          c.hand-handed.ensures (rule_of u _ _ _ _ _ c.hand-handed.ensures c.type_ok.ensures) c.if-not-type_ok.false _
          (sym c.is_some.ensures ∙ c.if-is_some.false) (rw c.children.ensures.is at c.bad_type-below.ensures)
          ∙ c.loop-tree.invariant.1,
    )

pub returns : goal.returns
returns g t c =
    place_none (type_ok (alone (tree_of c.args.root))) hand _ _ _ _ (gone c.loop-tree.tree-iterator c.in-None.ensures.steps.0)
    ∙ c.loop-tree.invariant.1
