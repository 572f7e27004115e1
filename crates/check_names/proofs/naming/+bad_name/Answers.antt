use Rattle.std.proofs.Common.{rules}
use mathlib.Core.Path.{◌≡◌, refl, sym, ap, ◌∙◌}
use mathlib.Core.Bool.{true}
use Prim.Native.Nat.{ℕ}
use native.Mathlib.Omega.{arith}
use Rattle.std.proofs.Common.{Some}
use Rattle.image.specs.Subtrees.{tree_of}
use Rattle.image.specs.Tree.{size}
use Rattle.image.proofs.Finding.{place_none, place_here, place_below, place_after}
use Rattle.image.proofs.Subtrees.{goes, gone}
use Rattle.plan.proofs.Turns.{next_is}
use Rattle.check_fields.specs.Rules.{name_ok, hand}
use Rattle.check_fields.specs.Scopes.{scope_at}
use Rattle.check_names.proofs.NameRule.{sound_first, sound_next, sound_rest, sound_below}
use Rattle.check_names.proofs.naming.+bad_name.Goals as goal

pub bad_name-below-requires-whole : goal.bad_name-below-requires-whole
bad_name-below-requires-whole g t c =
    let g = goes c.loop-tree.tree-iterator c.next.new.self c.in-Some.tree c.in-Some.ensures.steps in
    λ κs. (omega (arith, ap size g.is, ap size c.children.ensures.is, c.loop-tree.invariant.0, c.decreases), search rules)

pub returns-then-not-name_ok : goal.returns-then-not-name_ok
returns-then-not-name_ok g t c =
    λ k. let g = goes c.loop-tree.tree-iterator c.next.new.self c.in-Some.tree c.in-Some.ensures.steps in
    let v = c.loop-tree.invariant.1 k in
    ap (λ (n : ℕ). Some n) g.number
    ∙ place_here name_ok hand c.loop-tree.tree-iterator.first g.is refl refl (scope_at c.loop-tree.over) (scope_at c.args.after) _ _ refl refl
    (sym (c.name_ok.ensures (sound_first g.is _ v.0)) ∙ c.if-not-name_ok.true)
    ∙ v.1

pub returns-then-is_some : goal.returns-then-is_some
returns-then-is_some g t c =
    λ k. let g = goes c.loop-tree.tree-iterator c.next.new.self c.in-Some.tree c.in-Some.ensures.steps in
    let v = c.loop-tree.invariant.1 k in
    let here = scope_at c.loop-tree.over in
    let at = tree_of c.in-Some.tree in
    let ok : name_ok here at.label at.below ≡ true = sym (c.name_ok.ensures (sound_first g.is _ v.0)) ∙ c.if-not-name_ok.false in
    place_below name_ok hand c.loop-tree.tree-iterator.first g.is (rw g.number at c.children.ensures.first) refl here (scope_at c.args.after) _ _
    c.hand-handed.ensures refl ok _ (sym c.is_some.ensures ∙ c.if-is_some.true)
    ((rw c.children.ensures.is at c.bad_name-below.ensures)
    (sound_below here at.label at.below (rw c.kind-kind.ensures at c.role_of.ensures) c.known_inputs.ensures ok))
    ∙ v.1

pub loop-tree-preserved-then-is_plan : goal.loop-tree-preserved-then-is_plan
loop-tree-preserved-then-is_plan g t c =
    let x = c.loop-tree.tree-iterator in
    let g = goes x c.next.new.self c.in-Some.tree c.in-Some.ensures.steps in (
      omega (arith, ap size g.is, c.loop-tree.invariant.0),
      λ k. let v = c.loop-tree.invariant.1 k in
          let here = scope_at c.loop-tree.over in
          let at = tree_of c.in-Some.tree in
          let ok : name_ok here at.label at.below ≡ true = sym (c.name_ok.ensures (sound_first g.is _ v.0)) ∙ c.if-not-name_ok.false in (
            λ i l. sound_next g.is _ v.0 (sym (rw c.kind-kind.ensures at c.is_plan.ensures) ∙ c.if-is_plan.true) i
                (omega (arith, l, c.saturating_sub-sound.ensures)),
            place_after name_ok hand x.first g.is (rw g.number at c.children.ensures.first)
                (next_is x c.next.new.self c.in-Some.tree c.in-Some.ensures.steps) here (scope_at c.args.after) _ _
                c.hand-handed.ensures refl ok _ (sym c.is_some.ensures ∙ c.if-is_some.false)
                ((rw c.children.ensures.is at c.bad_name-below.ensures)
                (sound_below here at.label at.below (rw c.kind-kind.ensures at c.role_of.ensures) c.known_inputs.ensures ok))
                ∙ v.1,
          ),
    )

pub loop-tree-preserved : goal.loop-tree-preserved
loop-tree-preserved g t c =
    let x = c.loop-tree.tree-iterator in
    let g = goes x c.next.new.self c.in-Some.tree c.in-Some.ensures.steps in (
      omega (arith, ap size g.is, c.loop-tree.invariant.0),
      λ k. let v = c.loop-tree.invariant.1 k in
          let here = scope_at c.loop-tree.over in
          let at = tree_of c.in-Some.tree in
          let ok : name_ok here at.label at.below ≡ true = sym (c.name_ok.ensures (sound_first g.is _ v.0)) ∙ c.if-not-name_ok.false in (
            sound_rest g.is _ v.0 (sym (rw c.kind-kind.ensures at c.is_plan.ensures) ∙ c.if-is_plan.false),
            place_after name_ok hand x.first g.is (rw g.number at c.children.ensures.first)
                (next_is x c.next.new.self c.in-Some.tree c.in-Some.ensures.steps) here (scope_at c.args.after) _ _
                c.hand-handed.ensures refl ok _ (sym c.is_some.ensures ∙ c.if-is_some.false)
                ((rw c.children.ensures.is at c.bad_name-below.ensures)
                (sound_below here at.label at.below (rw c.kind-kind.ensures at c.role_of.ensures) c.known_inputs.ensures ok))
                ∙ v.1,
          ),
    )

pub returns : goal.returns
returns g t c =
    λ k. place_none name_ok hand _ _ _ _ (gone c.loop-tree.tree-iterator c.in-None.ensures.steps.0) ∙ (c.loop-tree.invariant.1 k).1
