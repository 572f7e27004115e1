-- A plan that is not too deep to be an answer is not too deep to be accepted.
use Prim.Native.Nat.{ℕ, suc, ◌+◌, ◌≤◌}
use native.Mathlib.Omega.{arith}
use mathlib.Core.Path.{◌≡◌, refl}
use lib.Dec.{leb}
use borrow.Author.Tests.{le-leb, leb-true}
use Rattle.image.specs.Limits.{max_depth}
use Rattle.image.specs.Tree.{Forest, none, node}
use Rattle.std.specs.Prelude.{None}
use Rattle.image.specs.Lowest.{or_else, unless, lowest}
use Rattle.image.proofs.Lowest.{or_first, or_second, unless_true}
use Rattle.plan.specs.Syntax.{Plan}
use Rattle.plan.specs.Trees.{plan_tree}
use Rattle.plan.specs.Measure.{depth, depth_p}
use Rattle.acceptance.specs.Check.{too_deep}

-- trees that begin at the level d and end within the limit
within_limit : (f : Forest) (d b : ℕ) → d + depth f ≤ suc max_depth
    → lowest (λ d l cs. leb d max_depth) (λ d l cs. (d + 1, d + 1)) d d b f ≡ None
unfolding lowest depth or_else unless
within_limit none d b h = refl
within_limit (node l cs ns) d b h =
    rw (le-leb d max_depth (omega arith), within_limit cs (d + 1) _ (omega arith), within_limit ns d _ (omega arith))

pub not_too_deep : (p : Plan) → depth_p p ≤ max_depth → too_deep (plan_tree p) ≡ None
unfolding too_deep depth_p depth
not_too_deep p h = within_limit _ 1 0 (omega arith)

-- and the other way
limit_kept : (f : Forest) (d b : ℕ) → d ≤ suc max_depth
    → lowest (λ d l cs. leb d max_depth) (λ d l cs. (d + 1, d + 1)) d d b f ≡ None → d + depth f ≤ suc max_depth
unfolding lowest depth
limit_kept none d b s h = omega arith
limit_kept (node l cs ns) d b s h =
    let top = leb-true d max_depth (unless_true _ b (or_first _ _ h)) in
    let rest = or_second _ _ h in
    omega (arith, limit_kept cs (d + 1) _ (omega arith) (or_first _ _ rest), limit_kept ns d _ s (or_second _ _ rest))

pub deep_enough : (p : Plan) → too_deep (plan_tree p) ≡ None → depth_p p ≤ max_depth
unfolding too_deep depth_p depth
deep_enough p h = omega (arith, limit_kept _ 1 0 (omega arith) h)
