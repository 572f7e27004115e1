-- The last child of a plan that a predicate goes below is the plan's input.
-- Assumes nothing.
use mathlib.Core.Path.{◌≡◌, refl, ap, ◌∙◌}
use Prim.Native.Nat.{ℕ, ◌+◌}
use native.Mathlib.Omega.{arith}
use Rattle.image.specs.Tree.{Forest, none, node}
use Rattle.image.specs.Subtrees.{Subtree, tree_of}
use Rattle.plan.specs.Syntax.{Plan}
use Rattle.plan.specs.Trees.{plan_tree, kids_p}
use Rattle.conjuncts.specs.Standing.{StandingP}
use Rattle.conjuncts.proofs.Standing.{plan_standing}
use Rattle.push_down_base.specs.Arms.{Takes}
use Rattle.push_down_base.specs.Inputs.{Last, last_of}

-- where there is a child, it does not matter what stands for none
last_or : (d k b : ℕ) (f : Forest) → last_of 0 b f ≡ d + k → last_of d b f ≡ d + k
last_or d k b none e = omega arith
last_or d k b (node l cs ns) e = e

module _ {t u : Subtree} {f : Plan → Plan} {q : Plan} (w : Last t u) (h : StandingP t.image.now t.number (f q))
    (k : Takes t.image.now t.number f q) where
  pub input_number : u.number ≡ t.number + k.own
  input_number =
      w.number ∙ ap (λ v. last_of t.number (t.number + 1) v.below) (plan_standing t refl refl h)
      ∙ last_or t.number k.own (t.number + 1) (kids_p (f q)) k.last

  pub input_tree : tree_of u ≡ plan_tree q
  input_tree = plan_standing u w.image input_number k.input
