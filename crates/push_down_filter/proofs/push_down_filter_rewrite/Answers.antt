-- `push_down_filter_rewrite` meets its contract: the record fits 32 bits, since it is the node, 0, or a record of the image, and so does the
-- count of records, which is at most `max_records`.
use native.Mathlib.Omega.{arith}
use mathlib.Core.Path.{◌≡◌, refl, sym, subst}
use mathlib.Core.Bool.{Bool, true, false}
use mathlib.Core.List.{List}
use mathlib.Core.Option.{Option, none, some}
use Prim.Native.Nat.{ℕ, ◌*◌, ◌≤◌, ◌<◌}
use lib.Dec.{leb}
use borrow.Author.Rules.{rules}
use borrow.Author.Tests.{leb-true}
use Rattle.image.specs.Limits.{max_records}
use Rattle.plan.specs.Lists.{choose}
use Rattle.plan.specs.Measure.{size_p}
use Rattle.plan.proofs.Lists.{and_l}
use Rattle.acceptance.proofs.Places.{place_within}
use Rattle.rewrite.specs.Limits.{within_limits}
use Rattle.rewrite.specs.OnBytes.{Rewritten, is_accepted, plan_in, no_rewrite, rewritten, asked_of, rewrite_bytes}
use Rattle.rewrite.specs.RewriteAt.{Focus, focus, Answer, granted, refused, result_fits, rewrite_in, rewrite_at, with_room, rewrite_call}
use Rattle.push_down_filter.proofs.push_down_filter_rewrite.Goals as goal

-- the record and the count fit 32 bits
abbrev Small : Rewritten → Type 0
Small t = (t.place < 4294967296) × (t.records < 4294967296)

-- .. of an answer
abbrev SmallAnswer : Answer → Type 0
SmallAnswer (granted f q) = size_p q ≤ max_records
SmallAnswer (refused k r) = r < 4294967296

either : {A : Type 0} (P : A → Type 0) (b : Bool) (x y : A) → (b ≡ true → P x) → P y → P (choose b x y)
unfolding choose
either P true x y h k = h refl
either P false x y h k = k

of_answer : (room : ℕ) (a : Answer) → SmallAnswer a → Small (rewritten room a)
unfolding rewritten no_rewrite
of_answer room (granted f q) h = (omega arith, omega arith)
of_answer room (refused k r) h = (h, omega arith)

roomy : (room : ℕ) (a : Answer) → SmallAnswer a → SmallAnswer (with_room room a)
unfolding with_room
roomy room (granted f q) h = either SmallAnswer (leb (32 * size_p q) room) _ _ (λ e. h) (omega arith)
roomy room (refused k r) h = h

module _ (n : ℕ) (l : n < 4294967296) where
  in_place : (o : Option Focus) → SmallAnswer (rewrite_in n o)
  unfolding rewrite_in result_fits within_limits
  in_place none = l
  in_place (some c) = either SmallAnswer (result_fits c) _ _ (λ e. leb-true _ max_records (and_l _ _ (and_l _ _ e))) l

  small : (s : List ℕ) (room : ℕ) → Small (rewrite_bytes s n room)
  unfolding rewrite_bytes asked_of rewrite_call rewrite_at no_rewrite
  small s room =
      either Small (is_accepted s) _ _ (λ e. of_answer room _ (roomy room _ (in_place (focus n (plan_in s)))))
      (omega (arith, place_within s), omega arith)

-- so they do of an answer, whatever the node
fits : (s : List ℕ) (n room : ℕ) {t : Rewritten} → t ≡ rewrite_bytes s n room → n < 4294967296 → Small t
fits s n room i l = subst Small (sym i) (small n l s room)

pub overflow_cast-result : goal.overflow_cast-result
overflow_cast-result c =
    let h = fits _ _ _ c.in-Ok.ensures (search rules) in
    omega (arith, h.1)

pub overflow_cast-result-in-Err : goal.overflow_cast-result-in-Err
overflow_cast-result-in-Err c =
    let h = fits _ _ _ c.in-Err.ensures (search rules) in
    omega (arith, h.0, c.record.ensures)
