-- Which numbers are the kinds of expressions, of plans and of parts.
--     Each, at           what is shown of each of a run of numbers, and one of them
--     ranged             a sort whose kinds are just the numbers of a run
-- Assumes nothing.
use mathlib.Core.Path.{◌≡◌, refl, sym, ap, subst, ◌∙◌}
use mathlib.Core.Bool.{Bool, true, false, ◌&&◌, ◌||◌, not, cond}
use mathlib.Core.List.{List, [], ◌∷◌}
use Prim.Native.Nat.{ℕ, zero, suc, ◌+◌, ◌≤◌, ◌<◌}
use native.Mathlib.Omega.{arith}
use lib.Dec.{eqb, leb}
use borrow.Author.Tests.{leb-true, leb-false, eqb-true}
use Rattle.image.specs.Tree.{Label}
use Rattle.plan.specs.Kinds.{What, expr, plan, part, unknown, kinds, among, what_of, number_of, number_e, number_p, number_q}
use Rattle.plan.specs.Kinds.{expr_w, plan_w, part_w, is_plan, Column, Function, TableScan, Window, FieldPart, WinPart}
use Rattle.plan.proofs.Bools.{and_left, and_right, same_truth}

-- ---- a run of numbers

-- P holds of the n numbers from a on
abbrev pub Each : (ℕ → Type 0) → ℕ → ℕ → Type 0
Each P a zero = Unit {0}
Each P a (suc n) = P a × Each P (suc a) n

-- so it holds of one of them
pub at : (P : ℕ → Type 0) (n a k : ℕ) → Each P a n → a ≤ k → k < a + n → P k
at P zero a k h l m = absurd (omega arith)
at P (suc n) a k h l m = go (leb (suc a) k) refl (λ q. at P n (suc a) k h.1 q (omega arith))
  where
    go : (b : Bool) → leb (suc a) k ≡ b → (suc a ≤ k → P k) → P k
    go true e r = r (leb-true (suc a) k e)
    go false e r = let q : a ≡ k = omega (arith, leb-false (suc a) k e) in subst P q h.0

-- what the test for a run says
from_run : (a b k : ℕ) → (leb a k && leb k b) ≡ true → a ≤ k
from_run a b k h = leb-true a k (and_left (leb a k) (leb k b) h)

to_run : (a b k : ℕ) → (leb a k && leb k b) ≡ true → k ≤ b
to_run a b k h = leb-true k b (and_right (leb a k) (leb k b) h)

-- ---- a sort of kinds, and the run from a to b

module _ (is : What → Bool) (a b : ℕ) where
  abbrev pub within : ℕ → Bool
  within k = leb a k && leb k b

  -- the kinds of the sort are in the run
  abbrev pub all_within : List What → Bool
  all_within [] = true
  all_within (w ∷ ws) = (not (is w) || within (number_of w)) && all_within ws

  in_run : (n : ℕ) (ws : List What) → is unknown ≡ false → all_within ws ≡ true → is (among n ws) ≡ true → within n ≡ true
  unfolding among
  in_run n [] u h k = let z : true ≡ false = sym k ∙ u in cc
  in_run n (w ∷ ws) u h k = go (eqb n (number_of w)) refl (λ q. in_run n ws u (and_right (not (is w) || within (number_of w)) (all_within ws) h) q) k
    where
      first : (x : Bool) → is w ≡ x → x ≡ true → (not x || within (number_of w)) ≡ true → within (number_of w) ≡ true
      first true e p q = q
      first false e p q = cc

      go : (x : Bool) → eqb n (number_of w) ≡ x → (is (among n ws) ≡ true → within n ≡ true)
          → is (cond x w (among n ws)) ≡ true → within n ≡ true
      go true e r q = ap within (eqb-true n (number_of w) e) ∙ first (is w) refl q (and_left (not (is w) || within (number_of w)) (all_within ws) h)
      go false e r q = r q

  -- and each number of the run is a kind of the sort
  pub ranged : (n : ℕ) → b < a + n → is unknown ≡ false → all_within kinds ≡ true → Each (λ k. is (what_of k) ≡ true) a n
      → (k : ℕ) → is (what_of k) ≡ within k
  unfolding what_of
  ranged n l u h e k =
      same_truth (is (what_of k)) (within k) (in_run k kinds u h)
      (λ q. at (λ m. is (what_of m) ≡ true) n a k e (from_run a b k q) (omega (arith, to_run a b k q)))

-- ---- the runs of the three sorts

abbrev pub expr_number : ℕ → Bool
expr_number k = leb (number_e Column) k && leb k (number_e Function)

abbrev pub plan_number : ℕ → Bool
plan_number k = leb (number_p TableScan) k && leb k (number_p Window)

abbrev pub part_number : ℕ → Bool
part_number k = leb (number_q FieldPart) k && leb k (number_q WinPart)

pub expr_kind : (k : ℕ) → expr_w (what_of k) ≡ expr_number k
unfolding what_of among
expr_kind = ranged expr_w 1 10 10 (omega arith) refl refl (refl, (refl, (refl, (refl, (refl, (refl, (refl, (refl, (refl, (refl, tt))))))))))

pub plan_kind : (k : ℕ) → plan_w (what_of k) ≡ plan_number k
unfolding what_of among
plan_kind =
    ranged plan_w 32 43 12 (omega arith) refl refl (refl, (refl, (refl, (refl, (refl, (refl, (refl, (refl, (refl, (refl, (refl, (refl, tt))))))))))))

pub part_kind : (k : ℕ) → part_w (what_of k) ≡ part_number k
unfolding what_of among
part_kind = ranged part_w 48 53 6 (omega arith) refl refl (refl, (refl, (refl, (refl, (refl, (refl, tt))))))

-- a record is a plan's just if its kind is in the run
pub plan_range : (l : Label) → is_plan l ≡ plan_number l.kind
plan_range l = plan_kind l.kind

-- where the run of a sort begins and ends
module _ (k : ℕ) where
  pub expr_run : expr_w (what_of k) ≡ true → (number_e Column ≤ k) × (k ≤ number_e Function)
  expr_run h = let e = sym (expr_kind k) ∙ h in (from_run _ 10 k e, to_run 1 _ k e)

  pub plan_run : plan_w (what_of k) ≡ true → (number_p TableScan ≤ k) × (k ≤ number_p Window)
  plan_run h = let e = sym (plan_kind k) ∙ h in (from_run _ 43 k e, to_run 32 _ k e)

  pub part_run : part_w (what_of k) ≡ true → (number_q FieldPart ≤ k) × (k ≤ number_q WinPart)
  part_run h = let e = sym (part_kind k) ∙ h in (from_run _ 53 k e, to_run 48 _ k e)

-- what is of none of the sorts is no kind
pub no_kind : (w : What) → expr_w w ≡ false → plan_w w ≡ false → part_w w ≡ false → w ≡ unknown
no_kind (expr x) a b c = cc
no_kind (plan x) a b c = cc
no_kind (part x) a b c = cc
no_kind unknown a b c = refl
