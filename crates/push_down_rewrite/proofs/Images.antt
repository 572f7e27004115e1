-- The image that was read or written, and its plan.
use Prim.Native.Nat.{ℕ, ◌*◌, ◌/◌, ◌≤◌}
use native.Mathlib.Omega.{arith}
use mathlib.Core.Path.{◌≡◌, sym, ap, subst, ◌∙◌}
use mathlib.Core.List.{List}
use lib.ListN.{length, length-take}
use lib.Seq.{take_all}
use Rattle.image.specs.Word.{Bytes}
use Rattle.plan.specs.Measure.{size_p}
use Rattle.plan.specs.Syntax.{Plan}
use Rattle.plan.specs.Trees.{plan_tree}
use Rattle.plan.proofs.Written.{plan_at_back}
use Rattle.acceptance.specs.Accepted.{Accepted}
use Rattle.acceptance.specs.Check.{verdict, check}
use Rattle.acceptance.proofs.Accept.{accepted}
use Rattle.acceptance.proofs.Converse.{same_tree}
use Rattle.rewrite.specs.OnBytes.{plan_in, plan_from_links}
use Rattle.rewrite.proofs.OnBytes.{tree_length}
use Rattle.push_down_merge.proofs.Root.{image_length}
use Rattle.push_down_merge.specs.Found.{Whole}
use Rattle.push_down_rewrite.specs.Outcomes.{Image}

-- an image has room for its records
pub image_room : {bytes : List ℕ} {records : ℕ} {q : Plan} → Image bytes records q → 32 * records ≤ length bytes
unfolding size_p
image_room {bytes} {records} {q} h =
    omega (arith, h.count, sym (length-take (32 * records) bytes) ∙ ap length h.bytes ∙ tree_length 0 (plan_tree q))

-- an image that was accepted
pub whole : (s : List ℕ) → Bytes s → check s ≡ verdict 0 0 → Whole s
unfolding plan_in plan_from_links
whole s bytes h =
    let a = accepted s bytes h in
    let p = a.0 in
    let back : plan_in s ≡ p = ap plan_in a.1.image ∙ ap plan_from_links (same_tree p a.1.well) ∙ plan_at_back p a.1.well.integers in
    record { accepted = subst (Accepted s) (sym back) a.1 }

module _ {s : List ℕ} (w : Whole s) where
  pub records_are : length s ≡ 32 * size_p (plan_in s)
  records_are = image_length s (plan_in s) w.accepted

  -- the image that was read is its plan's
  pub whole_image : {records : ℕ} → records ≡ length s / 32 → Image s records (plan_in s)
  whole_image {records} e =
      record {
        count = omega (arith, records_are);
        bytes = take_all (32 * records) s (omega (arith, records_are)) ∙ w.accepted.image;
      }
