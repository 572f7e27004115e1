-- Laws of an output whose first k bytes serve as a buffer: what the buffer holds in the end, a, stands in front of what was behind it.
use Prim.Native.Nat.{ℕ, ◌*◌, ◌≤◌}
use mathlib.Core.Path.{◌≡◌, ◌∙◌}
use mathlib.Core.List.{List, ◌++◌}
use lib.ListN.{length, take}
use lib.Seq.{take-append-le, length-take-le}
use Rattle.plan.specs.Syntax.{Plan}
use Rattle.push_down_rewrite.specs.Outcomes.{Image}
use Rattle.push_down_rewrite.proofs.Images.{image_room}

module _ (k : ℕ) (out a : List ℕ) (e : length a ≡ length (take k out)) where
  pub front_long : k ≤ length out → length a ≡ k
  front_long le = e ∙ length-take-le k out le

-- an image is one with anything behind it
pub image_front : {a : List ℕ} (t : List ℕ) {records : ℕ} {q : Plan} → Image a records q → Image (a ++ t) records q
image_front {a} t {records} h =
    record { count = h.count; bytes = take-append-le (32 * records) a t (image_room h) ∙ h.bytes }
