-- The whole, with the answer in the place of what was found: its records, its lists and its depth.
use Prim.Native.Nat.{ℕ, ◌-◌, ◌*◌, ◌≤◌}
use native.Mathlib.Omega.{arith}
use Rattle.std.specs.Prelude.{Err}
use mathlib.Core.Path.{◌≡◌, refl, sym, ◌∙◌}
use mathlib.Core.Bool.{Bool, true, false}
use mathlib.Core.List.{List, []}
use lib.Dec.{leb}
use lib.Seq.{slice}
use borrow.Author.Tests.{leb-true, leb-false}
use Rattle.image.specs.Limits.{max_list}
use Rattle.image.specs.Flat.{flat}
use Rattle.image.specs.Room.{cap}
use Rattle.plan.specs.Lists.{◌&◌, all}
use Rattle.plan.specs.Syntax.{Plan}
use Rattle.plan.specs.Trees.{plan_tree}
use Rattle.rewrite.specs.Limits.{list_p, within_limits}
use Rattle.rewrite.specs.PushDownFilter.{Transformed}
use Rattle.rewrite.specs.RewriteAt.{Focus}
use Rattle.answers.specs.declared.splicing.Spot.{Spot}
use Rattle.answers.specs.Splicing.{Ran}
use Rattle.answers.proofs.Splice.{Begun, spliced}
use Rattle.answers.proofs.Fitting.{list_back, fits_long}
use Rattle.push_down_base.specs.Arms.{Written}
use Rattle.plan.proofs.Lists.{and_true}
use Rattle.push_down_merge.specs.Merging.{Fitting}
use Rattle.push_down_merge.proofs.Tested.{few_records, fitting_few, within_is}
use Rattle.push_down_merge.specs.declared.filter.TooLarge.{TooLarge}
use Rattle.push_down_rewrite.specs.Outcomes.{Replaces, Finishes}

-- what does not fit is not asked for more
pub unfit : {work : List ℕ} {e : TooLarge} {c : Focus} {ms : List Plan} {t : Transformed}
    → false ≡ (within_limits (c.back t.plan) & all (λ m. within_limits (c.back m)) ms) → Finishes work (Err e) c ms t
unfit f = record { fit = f; flag = tt; image = tt }

-- no plan is on the way
pub at_once : (c : Focus) (q : Plan) {b : Bool} → b ≡ within_limits (c.back q)
    → b ≡ (within_limits (c.back q) & all (λ m. within_limits (c.back m)) [])
unfolding all
at_once c q e = e ∙ sym (and_true (within_limits (c.back q)))

module _ {s levels work : List ℕ} {spot : Spot} {new : Written} {node : ℕ} {w : Plan} {c : Focus} {t : Transformed}
    (h : Replaces s levels work spot new node w c t) where
  -- what stands behind it is written again
  module _ {out : List ℕ} {n : ℕ}
      (v : Ran work out new.next (spot.records - spot.end) n (slice (32 * spot.end) (32 * spot.records) (flat 1 (plan_tree w)))) where
    begun_of : list_p t.plan ≤ max_list → Begun out n (plan_tree (c.back t.plan))
    begun_of k = spliced w node c h.inside.there t.plan h.long (few_records h.inside) h.begun (h.answers.fits k) v

    lists_back : leb (list_p (c.back t.plan)) max_list ≡ leb (list_p t.plan) max_list
    lists_back = list_back w node c h.inside.there t.plan max_list h.inside.lists

    -- the whole fits exactly if the test says so
    module _ {b : Bool} (f : Fitting b out n) where
      pub decides : b ≡ within_limits (c.back t.plan)
      unfolding cap
      decides = go (leb (list_p t.plan) max_list) refl
        where
          go : (d : Bool) → leb (list_p t.plan) max_list ≡ d → b ≡ within_limits (c.back t.plan)
          go true e = within_is f (c.back t.plan) (begun_of (leb-true (list_p t.plan) max_list e)) (lists_back ∙ e)
          go false e =
              f.full (omega (arith, (h.answers.over (leb-false (list_p t.plan) max_list e)).0, v.next))
              ∙ sym (fits_long (c.back t.plan) (lists_back ∙ e))

      -- then it begins the buffer
      pub begun : b ≡ true → Begun out n (plan_tree (c.back t.plan))
      unfolding cap
      begun y = go (leb (list_p t.plan) max_list) refl
        where
          go : (d : Bool) → leb (list_p t.plan) max_list ≡ d → Begun out n (plan_tree (c.back t.plan))
          go true e = begun_of (leb-true (list_p t.plan) max_list e)
          go false e =
              absurd (omega (arith, (h.answers.over (leb-false (list_p t.plan) max_list e)).0, v.next, fitting_few f y))
