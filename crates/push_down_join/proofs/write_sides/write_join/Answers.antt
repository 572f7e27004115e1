use mathlib.Core.Path.{ap, ◌∙◌}
use Prim.Native.Nat.{◌+◌}
use native.Mathlib.Omega.{arith}
use Rattle.image.specs.Tree.{Tree}
use Rattle.std.proofs.Common.{rules}
use Rattle.writing.proofs.Maps.{over_at, plan_is}
use Rattle.push_down_base.proofs.FirstTwo.{low_first, low_second}
use Rattle.push_down_join.proofs.JoinScope.{inputs_are}
use Rattle.push_down_join.proofs.JoinWritten.{left_side, right_side, left_some, right_some, carried_low, join_wrote, pairs_are}
use Rattle.push_down_join.proofs.write_sides.write_join.Goals as goal

pub copy_sided_filtered-requires : goal.copy_sided_filtered-requires
copy_sided_filtered-requires c =
    let q = c.requires.carried in
    let h = q.carries in
    let w = c.inputs.ensures q.kind q.lhs q.rhs q.keys q.condition (plan_is c.args.plan h.standing) in
    let low = low_first w (carried_low h (c.args.level + 2) (omega (arith, c.requires.over.shallow))) in (
      omega arith,
      (
        omega arith,
        (left_some h, (search rules, (record { depth = low.depth; deep = low.deep; low = omega (arith, low.low) }, over_at c.requires.over (omega arith)))),
      ),
    )

pub copy_sided_filtered-requires-2 : goal.copy_sided_filtered-requires-2
copy_sided_filtered-requires-2 c =
    let q = c.requires.carried in
    let h = q.carries in
    let w = c.inputs.ensures q.kind q.lhs q.rhs q.keys q.condition (plan_is c.args.plan h.standing) in
    let low = low_second w (carried_low h (c.args.level + 2) (omega (arith, c.requires.over.shallow))) in (
      omega arith,
      (
        omega arith,
        (right_some h, (search rules, (record { depth = low.depth; deep = low.deep; low = omega (arith, low.low) }, over_at c.requires.over (omega arith)))),
      ),
    )

pub copy_pairs-requires : goal.copy_pairs-requires
copy_pairs-requires c = carried_low c.requires.carried.carries _ (omega (arith, c.requires.over.shallow))

pub returns-clause-wrote : goal.returns-clause-wrote
returns-clause-wrote c =
    λ k l r on f P G σ h.
    let t = plan_is c.args.plan h.standing in
    let w = c.inputs.ensures k l r on f t in
    let i = inputs_are w k l r on f t in
    join_wrote k l r _ _ on f _ c.args.out.now.long c.put.ensures.put (c.label.ensures.label ∙ ap (λ (u : Tree). u.label) t)
    (c.copy_sided_filtered.ensures.wrote σ _ _ (left_side h) _ h.moved.left l i.0)
    (c.copy_sided_filtered-2.ensures.wrote σ _ _ (right_side h) _ h.moved.right r i.1)
    (pairs_are _ _ t c.copy_pairs.ensures.wrote)
    (c.copy_conditions.ensures.wrote σ h.maps _ h.moved.conditions)
