-- The call on bytes: the pass on the plan in an accepted image, test 12, and what is handed out.
use Prim.Native.Nat.{ℕ, ◌*◌, ◌/◌, ◌≤◌, ◌<◌}
use native.Mathlib.Omega.{arith}
use mathlib.Core.Path.{◌≡◌, refl, subst}
use mathlib.Core.Bool.{true, false}
use mathlib.Core.List.{List, ◌++◌}
use lib.Dec.{leb}
use lib.ListN.{length, take}
use borrow.Author.Tests.{le-leb, lt-leb, ne_eqb}
use Rattle.image.specs.Limits.{work_bytes, max_records}
use Rattle.plan.specs.Lists.{choose}
use Rattle.plan.specs.Measure.{size_p}
use Rattle.plan.specs.Syntax.{Plan}
use Rattle.plan.specs.Trees.{bit_of}
use Rattle.acceptance.specs.Check.{verdict, check}
use Rattle.check_image.specs.Answer.{refused}
use Rattle.check_image.proofs.Accepting.{no_zero}
use Rattle.std.specs.Prelude.{Result, Ok, Err, is_err}
use Rattle.image.specs.Refusals.{number_of}
use Rattle.image.specs.declared.refusals.Refusal.{Refusal}
use Rattle.rewrite.specs.OnBytes.{Passed, plan_in, is_accepted, zeros, filled, no_pass, reported, pass_bytes}
use Rattle.rewrite.specs.Pass.{PassAnswer, pass, pass_with_room, pass_call}
use Rattle.push_down_merge.proofs.Root.{image_short}
use Rattle.push_down_merge.specs.Found.{Whole}
use Rattle.push_down_rewrite.specs.Outcomes.{Image}
use Rattle.push_down_rewrite.proofs.Images.{image_room, records_are, whole_image}
use Rattle.push_down_rewrite.proofs.Fronts.{image_front}
use Rattle.call_pass.specs.Answer.{Small, refusal, passed_of, outcome_of}
use Rattle.call_pass.specs.declared.call_pass.Answer.{Answer}
use Rattle.pass.specs.Walks.{Walk, Left, Refused}
use Rattle.pass.proofs.Steps.{image_copied}

-- ---- test 12

module _ (room : ℕ) {s : List ℕ} {w : Walk} {x : PassAnswer} (h : Left s w x) where
  pub no_room : room / 32 < w.records → refusal (verdict 12 0) (zeros room) ≡ reported room (pass_with_room room x)
  unfolding reported no_pass pass_with_room choose
  no_room few = rw (h.is, lt-leb (32 * size_p h.plan) room (omega (arith, h.image.count)))

  pub some_room : {out : List ℕ} → w.records ≤ room / 32 → out ≡ filled room (take (32 * w.records) s)
      → record {
        number = 0;
        place = 0;
        visits = w.visits;
        changed = w.changed;
        finished = bit_of (leb w.records w.next);
        records = w.records;
        output = out;
      } ≡ reported room (pass_with_room room x)
  unfolding reported pass_with_room choose
  some_room few o = rw (h.is, le-leb (32 * size_p h.plan) room (omega (arith, h.image.count)), o, h.image.bytes, h.image.count)

-- ---- the image at which a walk ended, in another buffer

module _ {s : List ℕ} {w : Walk} {x : PassAnswer} (h : Left s w x) where
  pub left_room : 32 * w.records ≤ length s
  left_room = image_room h.image

  pub left_few : length s ≡ work_bytes → w.records ≤ max_records
  left_few long = omega (arith, left_room)

  pub left_front : (t : List ℕ) → Left (s ++ t) w x
  left_front t = record { plan = h.plan; image = image_front t h.image; is = h.is }

-- ---- test 11

-- the pass was refused
pub walk_refused : (room : ℕ) {e : Refusal} {x : PassAnswer} → Refused e x
    → Small (Err e) × (refusal (refused e) (zeros room) ≡ reported room (pass_with_room room x))
unfolding reported no_pass pass_with_room
walk_refused room h = rw (h.is, h.refused) (omega (arith, h.near), refl)

-- the call: the pass, then test 12
pub called : (budget room : ℕ) (p : Plan) → reported room (pass_with_room room (pass budget p)) ≡ reported room (pass_call budget room p)
unfolding pass_call
called budget room p = refl

-- ---- the copy of an accepted image

module _ {s : List ℕ} (w : Whole s) where
  pub short : length s ≤ work_bytes
  short = image_short s (plan_in s) w.accepted

  pub copied : {t : List ℕ} → take (length s) t ≡ take (length s) s → Image t (length s / 32) (plan_in s)
  copied {t} e =
      let z : length s ≡ 32 * (length s / 32) = omega (arith, records_are w) in
      image_copied (subst (λ n. take n t ≡ take n s) z e) (whole_image w refl)

-- ---- the tests of the image

module _ (s : List ℕ) (budget room : ℕ) where
  pub refused_image : (r : Refusal) → refused r ≡ check s → refusal (refused r) (zeros room) ≡ pass_bytes s budget room
  unfolding pass_bytes is_accepted choose no_pass
  refused_image r e = rw (← e, ne_eqb (number_of r) 0 (no_zero r))

  pub accepted_image : check s ≡ verdict 0 0 → reported room (pass_call budget room (plan_in s)) ≡ pass_bytes s budget room
  unfolding pass_bytes is_accepted choose
  accepted_image e = rw e

-- ---- a refusal clears the output

module _ (room : ℕ) (a : Result Answer Refusal) (out : List ℕ) {x : Passed} (e : outcome_of room a out ≡ x) where
  pub cleared : is_err a ≡ true → (zeroed : List ℕ) → zeroed ≡ zeros room → passed_of a zeroed ≡ x
  cleared h zeroed o = go a e h
    where
      go : (b : Result Answer Refusal) → outcome_of room b out ≡ x → is_err b ≡ true → passed_of b zeroed ≡ x
      go (Ok y) e h = let z : ◌≡◌ {A = ℕ} 0 1 = cc in absurd (omega arith)
      go (Err r) e h = rw o e

  pub kept : is_err a ≡ false → passed_of a out ≡ x
  kept h = go a e h
    where
      go : (b : Result Answer Refusal) → outcome_of room b out ≡ x → is_err b ≡ false → passed_of b out ≡ x
      go (Ok y) e h = e
      go (Err r) e h = let z : ◌≡◌ {A = ℕ} 0 1 = cc in absurd (omega arith)
