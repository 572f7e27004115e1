-- Accepted images and well-formed plans: each is the other's.
use Prim.Native.Nat.{ℕ, ◌*◌}
use mathlib.Core.Path.{◌≡◌, refl, sym, ap, subst, ◌∙◌}
use mathlib.Core.List.{List}
use lib.ListN.{take}
use lib.Seq.{take_at}
use Rattle.image.specs.Limits.{record_bytes}
use Rattle.image.specs.Flat.{size_t}
use Rattle.image.proofs.Bytes.{image_bytes}
use Rattle.plan.specs.Syntax.{Plan}
use Rattle.plan.specs.Trees.{plan_tree}
use Rattle.plan.specs.Measure.{size_p}
use Rattle.plan.proofs.Written.{plan_at_back}
use Rattle.acceptance.specs.Accepted.{WellFormed}
use Rattle.acceptance.proofs.Accept.{accepted}
use Rattle.acceptance.proofs.Converse.{accepts, same_tree}
use Rattle.rewrite.specs.OnBytes.{image_of, plan_from_links, plan_in, filled}
use Rattle.rewrite.proofs.OnBytes.{tree_length}
use Rattle.preservation.specs.Statement.{Image}

-- the plan in the image of a well-formed plan is that plan
pub plan_in_image : (p : Plan) → WellFormed p → plan_in (image_of p) ≡ p
unfolding plan_in plan_from_links
plan_in_image p w = ap plan_from_links (same_tree p w) ∙ plan_at_back p w.integers

-- what stands in accepted bytes
pub record Stands (s : List ℕ) : Type 0 where
  pub well : WellFormed (plan_in s)
  pub image : s ≡ image_of (plan_in s)

pub stands : (s : List ℕ) → Image s → Stands s
stands s h =
    let a = accepted s h.bytes h.accepted in
    let e : plan_in s ≡ a.0 = ap plan_in a.1.image ∙ plan_in_image a.0 a.1.well in
    record {
      well = subst WellFormed (sym e) a.1.well;
      image = a.1.image ∙ ap image_of (sym e);
    }

-- the image of a well-formed plan is accepted
pub image_of_lem : (p : Plan) → WellFormed p → Image (image_of p)
image_of_lem p w = record {
  bytes = image_bytes 0 (plan_tree p);
  accepted = accepts (image_of p) p (record { image = refl; well = w });
}

-- an output without the zeros after the answer is the answer
pub without_zeros : (room : ℕ) (p : Plan) → take (record_bytes * size_p p) (filled room (image_of p)) ≡ image_of p
unfolding filled size_p
without_zeros room p = take_at (image_of p) _ (record_bytes * size_t (plan_tree p)) (tree_length 0 (plan_tree p))
