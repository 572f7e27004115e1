-- What an accepted image holds: its plan stands at record 0, within the limits, and keeps the name rules.
use Prim.Native.Nat.{ℕ, suc, ◌-◌, ◌*◌, ◌≤◌}
use native.Mathlib.Omega.{arith}
use native.Mathlib.Nat.{le_trans, le-max_left, le-max_right}
use mathlib.Core.Path.{◌≡◌, ap, ◌∙◌}
use mathlib.Core.Bool.{true}
use mathlib.Core.List.{List}
use lib.ListN.{length}
use borrow.Author.Tests.{leb-true, le-leb}
use Rattle.image.specs.Tree.{Forest, none, node, Deep}
use Rattle.image.specs.Limits.{max_records, max_depth, max_list, work_bytes, max_below}
use Rattle.plan.specs.Syntax.{Plan}
use Rattle.plan.specs.Trees.{plan_tree, kids_p}
use Rattle.plan.specs.Measure.{depth, size_p, depth_p}
use Rattle.plan.proofs.Lists.{and_r, and_intro}
use Rattle.acceptance.specs.Accepted.{WellFormed, Accepted}
use Rattle.acceptance.proofs.Converse.{stands_alone}
use Rattle.acceptance.specs.NamesRule.{ok}
use Rattle.rewrite.specs.Limits.{list_p, within_limits}
use Rattle.rewrite.proofs.OnBytes.{tree_length}
use Rattle.preservation.proofs.Depth.{deep_enough}
use Rattle.preservation.proofs.FormTest.{formed_law}
use Rattle.preservation.proofs.Granted.{well_ok}
use Rattle.conjuncts.specs.Standing.{StandingP}

-- a forest is as deep as its levels
depth_deep : (f : Forest) (d : ℕ) → depth f ≤ d → Deep f d
unfolding depth
depth_deep none d h = tt
depth_deep (node l cs ns) d h =
    let a : suc (depth cs) ≤ d = le_trans (le-max_left (suc (depth cs)) (depth ns)) h in
    let b : depth ns ≤ d = le_trans (le-max_right (suc (depth cs)) (depth ns)) h in
    (omega arith, depth_deep cs (d - 1) (omega arith), depth_deep ns d b)

module _ (p : Plan) (w : WellFormed p) where
  pub lists_fit : list_p p ≤ max_list
  lists_fit = leb-true (list_p p) max_list (and_r _ _ ((formed_law p).0 w.form))

  pub plan_fits : within_limits p ≡ true
  unfolding within_limits size_p
  plan_fits =
      and_intro (le-leb (size_p p) max_records w.records)
      (and_intro (le-leb (depth_p p) max_depth (deep_enough p w.depth)) (le-leb (list_p p) max_list lists_fit))

module _ (s : List ℕ) (p : Plan) (a : Accepted s p) where
  pub image_length : length s ≡ 32 * size_p p
  unfolding size_p
  image_length = ap length a.image ∙ tree_length 0 (plan_tree p)

  pub image_short : length s ≤ work_bytes
  unfolding size_p
  image_short = omega (arith, image_length, a.well.records)

  pub standing_root : StandingP s 0 p
  unfolding depth_p
  standing_root =
      let k = stands_alone (plan_tree p) a.well.words a.well.records in
      record {
        within = omega arith;
        here = rw a.image (record { head = k.head; below = k.below });
        deep = depth_deep (kids_p p) max_below (omega (arith, deep_enough p a.well.depth));
        fits = a.well.integers;
        small = omega arith;
      }

  pub names_kept : ok p ≡ true
  names_kept = well_ok p a.well
