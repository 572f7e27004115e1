-- How many records a plan has with another in the place of one, and when it fits.
--     size_back       the records of a plan with another in the place of one
--     fits_is         when a plan whose records and lists are within the limits fits
-- Assumes nothing.
use mathlib.Core.Path.{◌≡◌, refl, sym, ap, ◌∙◌}
use mathlib.Core.Bool.{Bool, true, false}
use mathlib.Core.List.{List}
use mathlib.Core.Option.{some}
use Prim.Native.Nat.{ℕ, ◌+◌, ◌*◌, ◌≤◌}
use native.Mathlib.Omega.{arith}
use lib.Dec.{leb}
use lib.ListN.{length, length-append}
use Rattle.image.specs.Limits.{max_records, max_depth, max_list}
use Rattle.image.specs.Flat.{size_t, flat}
use Rattle.image.proofs.Writing.{flat_length}
use Rattle.plan.specs.Syntax.{Plan}
use Rattle.plan.specs.Trees.{plan_tree}
use Rattle.plan.specs.Measure.{depth_t, size_p}
use Rattle.rewrite.specs.Limits.{list_p, within_limits}
use Rattle.rewrite.specs.RewriteAt.{Focus, focus}
use Rattle.answers.proofs.Spliced.{Split, split_at}
use Rattle.answers.proofs.Splice.{Begun, within}
use Rattle.answers.proofs.Fitting.{fits_deep, fits_all}

module _ (p : Plan) (node : ℕ) (c : Focus) (f : focus node p ≡ some c) where
  -- where the plan stands
  abbrev at : Split 1 node (flat 1 (plan_tree p)) c.plan (λ q. flat 1 (plan_tree (c.back q)))
  at = split_at p node 1 c f

  -- the records of the whole with another in its place
  within_new : (q : Plan) → 32 * (node + size_t (plan_tree q)) + length at.after ≡ 32 * size_t (plan_tree (c.back q))
  within_new q =
      let e : length (flat 1 (plan_tree (c.back q))) ≡ length at.before + (length (flat at.level (plan_tree q)) + length at.after) =
      ap length (at.again q) ∙ simp length-append in
      omega (arith, e, at.count, flat_length 1 (plan_tree (c.back q)), flat_length at.level (plan_tree q))

  -- the records of both wholes
  pub size_back : (q : Plan) → size_p (c.back q) + size_p c.plan ≡ size_p p + size_p q
  unfolding size_p
  size_back q = omega (arith, within p node c f, within_new q)

-- where its records and its lists are within the limits, a plan fits exactly if its depth is
pub fits_is : {out : List ℕ} {n : ℕ} (p : Plan) → Begun out n (plan_tree p) → n ≤ max_records → leb (list_p p) max_list ≡ true
    → leb (depth_t (plan_tree p)) max_depth ≡ within_limits p
fits_is p b few lists = go (leb (depth_t (plan_tree p)) max_depth) refl
  where
    go : (d : Bool) → leb (depth_t (plan_tree p)) max_depth ≡ d → d ≡ within_limits p
    go true e = sym (fits_all p b few e lists)
    go false e = sym (fits_deep p e)
