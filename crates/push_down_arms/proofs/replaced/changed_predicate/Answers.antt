use native.Mathlib.Nat.{le_trans, le_of_eq}
use native.Mathlib.Omega.{arith}
use Rattle.plan.specs.Syntax.{col}
use Rattle.rewrite.specs.Utils.{replace_cols, split_conjunction}
use Rattle.push_down_base.proofs.Answering.{few}
use Rattle.push_down_arms.proofs.Changes.{pushes_small, map_count, changed_list, changed_written}
use Rattle.push_down_arms.proofs.replaced.changed_predicate.Goals as goal

pub overflow_add-result : goal.overflow_add-result
overflow_add-result c = let k = c.requires.shaped.stands _ c.in-Some.is in omega (arith, k.1.small)

pub returns-in-Some : goal.returns-in-Some
returns-in-Some c = (c.requires.shaped.most, λ s σ e h. changed_written σ e _ h c.in-Some.is)

pub returns-in-None : goal.returns-in-None
returns-in-None c =
    let p = c.requires in
    rw c.joined.ensures (
      pushes_small (c.changed.ensures p.image (λ x. col x) (split_conjunction p.expr) p.shaped.listed)
          (le_trans (le_of_eq (map_count (replace_cols (λ x. col x)) (split_conjunction p.expr))) (few p.shaped)),
      λ s σ e h. changed_list σ e h c.in-None.is (c.changed.ensures s σ (split_conjunction e) h.listed),
    )
