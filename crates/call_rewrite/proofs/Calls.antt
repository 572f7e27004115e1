-- The call on bytes: the tests 8, 11 and 12 in their order, and what is handed out.
use Prim.Native.Nat.{ℕ, ◌*◌, ◌/◌, ◌≤◌, ◌<◌}
use native.Mathlib.Omega.{arith}
use mathlib.Core.Path.{◌≡◌, sym, ap, ◌∙◌}
use mathlib.Core.Bool.{Bool, true, false}
use mathlib.Core.List.{List, []}
use mathlib.Core.Option.{none, some}
use lib.ListN.{length, take, drop}
use borrow.Author.Tests.{le-leb, lt-leb, ne_eqb}
use Rattle.image.specs.Word.{word}
use Rattle.image.specs.Tree.{label_at}
use Rattle.plan.specs.Kinds.{is_plan, plan_w, what_of}
use Rattle.plan.specs.Lists.{choose}
use Rattle.plan.specs.Measure.{size_p}
use Rattle.plan.specs.Syntax.{Plan}
use Rattle.plan.specs.Trees.{bit_of}
use Rattle.acceptance.specs.Check.{verdict, check}
use Rattle.check_image.specs.Answer.{refused}
use Rattle.check_image.proofs.Accepting.{no_zero}
use Rattle.std.specs.Prelude.{Result, Ok, Err, is_err}
use Rattle.image.specs.Refusals.{number_of}
use Rattle.image.specs.declared.refusals.Refusal.{Refusal}
use Rattle.rewrite.specs.OnBytes.{Rewritten, plan_in, is_accepted, zeros, filled, no_rewrite, rewritten, asked_of, rewrite_bytes}
use Rattle.rewrite.specs.PushDownFilter.{rewrite}
use Rattle.rewrite.specs.RewriteAt.{Focus, focus, granted, result_fits, rewrite_in, rewrite_at, with_room, rewrite_call}
use Rattle.rewrite.proofs.PlanFrom.{focus_end}
use Rattle.rewrite.proofs.Marks.{is_some}
use Rattle.push_down_merge.proofs.Root.{standing_root}
use Rattle.push_down_rewrite.proofs.Marked.{plan_there, found_there, not_found}
use Rattle.push_down_merge.proofs.Tested.{inside_of}
use Rattle.call_rewrite.specs.Answer.{refusal, rewritten_of, outcome_of}
use Rattle.call_rewrite.specs.declared.call_rewrite.Answer.{Answer}
use Rattle.push_down_merge.specs.Found.{Whole, Here}
use Rattle.push_down_rewrite.proofs.Images.{records_are}
use Rattle.push_down_rewrite.specs.Outcomes.{Image, answer}
use Rattle.push_down_stays.specs.Staying.{Stays}
use Rattle.push_down_rewrite.proofs.Outcoming.{stays_outcomes}

-- ---- test 12

module _ (room : ℕ) {image : List ℕ} {records : ℕ} (f : Bool) (q : Plan) (h : Image image records q) where
  pub no_room : room / 32 < records → refusal (verdict 12 0) (zeros room) ≡ rewritten room (with_room room (granted f q))
  unfolding rewritten no_rewrite with_room choose
  no_room few = rw (lt-leb (32 * size_p q) room (omega (arith, h.count)))

  pub some_room : {out : List ℕ} → records ≤ room / 32 → out ≡ filled room (take (32 * records) image)
      → record { number = 0; place = 0; flag = bit_of f; records = records; output = out } ≡ rewritten room (with_room room (granted f q))
  unfolding rewritten with_room choose
  some_room few o = rw (le-leb (32 * size_p q) room (omega (arith, h.count)), o, h.bytes, h.count)

-- ---- tests 8 and 11

module _ (room n : ℕ) (p : Plan) where
  pub refused_8 : focus n p ≡ none → refusal (verdict 8 n) (zeros room) ≡ rewritten room (rewrite_call n room p)
  unfolding rewritten no_rewrite with_room rewrite_call rewrite_at rewrite_in
  refused_8 e = rw e

  module _ {c : Focus} (e : focus n p ≡ some c) where
    pub refused_11 : result_fits c ≡ false → refusal (verdict 11 n) (zeros room) ≡ rewritten room (rewrite_call n room p)
    unfolding rewritten no_rewrite with_room rewrite_call rewrite_at rewrite_in choose
    refused_11 f = rw (e, f)

    pub granted_call : {b : Bool} {q : Plan} → result_fits c ≡ true → b ≡ (rewrite c.plan).transformed → q ≡ answer c
        → rewritten room (with_room room (granted b q)) ≡ rewritten room (rewrite_call n room p)
    unfolding rewrite_call rewrite_at rewrite_in choose
    granted_call f g i = rw (e, f, g, i)

-- ---- what stands at a record of an accepted image

module _ {s : List ℕ} (w : Whole s) where
  pub absent : {n : ℕ} → length s / 32 ≤ n → focus n (plan_in s) ≡ none
  absent {n} h = focus_end n (plan_in s) (omega (arith, records_are))

  -- b says whether the number read there is a plan's
  module _ {n : ℕ} (small : n < length s / 32) {part : List ℕ} {k : ℕ} {b : Bool} (at : part ≡ drop (32 * n) s) (is : k ≡ word part 0)
      (told : b ≡ plan_w (what_of k)) where
    plan_told : is_some (focus n (plan_in s)) ≡ b
    plan_told =
        plan_there (standing_root s (plan_in s) w.accepted) n (omega (arith, records_are))
        ∙ ap (λ t. is_plan (label_at t)) (sym at) ∙ sym (told ∙ ap (λ (n : ℕ). plan_w (what_of n)) is)

    pub no_plan : b ≡ false → focus n (plan_in s) ≡ none
    no_plan e = not_found (focus n (plan_in s)) (plan_told ∙ e)

    pub a_plan : b ≡ true → Here s n
    a_plan e =
        let f = found_there (focus n (plan_in s)) (plan_told ∙ e) in
        record { whole = w; spot = f.0; inside = inside_of s (plan_in s) w.accepted f.1 }

-- ---- a plan that stays as it is

pub stayed : {s : List ℕ} {n : ℕ} {b : Bool} (room : ℕ) (h : Here s n) → Stays b h.spot.plan → b ≡ true
    → rewritten room (with_room room (granted false (plan_in s))) ≡ rewritten room (rewrite_call n room (plan_in s))
stayed {s} {n} room h u t =
    let o = stays_outcomes {work = []} h.inside u t in
    granted_call room n (plan_in s) h.inside.there (sym o.fit) o.flag (sym o.image)

-- ---- the tests of the image

module _ (s : List ℕ) (node room : ℕ) where
  pub refused_image : (r : Refusal) → refused r ≡ check s → refusal (refused r) (zeros room) ≡ rewrite_bytes s node room
  unfolding rewrite_bytes asked_of is_accepted choose no_rewrite
  refused_image r e = rw (← e, ne_eqb (number_of r) 0 (no_zero r))

  pub accepted_image : check s ≡ verdict 0 0 → rewritten room (rewrite_call node room (plan_in s)) ≡ rewrite_bytes s node room
  unfolding rewrite_bytes asked_of is_accepted choose
  accepted_image e = rw e

-- ---- a refusal clears the output

module _ (room : ℕ) (a : Result Answer Refusal) (out : List ℕ) {x : Rewritten} (e : outcome_of room a out ≡ x) where
  pub cleared : is_err a ≡ true → (zeroed : List ℕ) → zeroed ≡ zeros room → rewritten_of a zeroed ≡ x
  cleared h zeroed o = go a e h
    where
      go : (b : Result Answer Refusal) → outcome_of room b out ≡ x → is_err b ≡ true → rewritten_of b zeroed ≡ x
      go (Ok y) e h = let z : ◌≡◌ {A = ℕ} 0 1 = cc in absurd (omega arith)
      go (Err r) e h = rw o e

  pub kept : is_err a ≡ false → rewritten_of a out ≡ x
  kept h = go a e h
    where
      go : (b : Result Answer Refusal) → outcome_of room b out ≡ x → is_err b ≡ false → rewritten_of b out ≡ x
      go (Ok y) e h = e
      go (Err r) e h = let z : ◌≡◌ {A = ℕ} 0 1 = cc in absurd (omega arith)
