-- `push_down_filter_row_test` meets its contract: the record fits 32 bits, since it is the node, 0, or a record of the image.
use native.Mathlib.Omega.{arith}
use mathlib.Core.Path.{◌≡◌, sym, subst}
use mathlib.Core.Bool.{Bool, true, false, not}
use mathlib.Core.List.{List}
use mathlib.Core.Option.{Option, none, some}
use Prim.Native.Nat.{ℕ, ◌<◌}
use lib.IntN.{ℤ}
use borrow.Author.Rules.{rules}
use Rattle.plan.specs.Lists.{choose}
use Rattle.plan.specs.Syntax.{Expr, Plan, scan, filter, project, join, alias, union, distinct, sort, repartition, limit, aggregate, window}
use Rattle.plan.specs.Types.{types}
use Rattle.acceptance.proofs.Places.{place_within}
use Rattle.rewrite.specs.OnBytes.{plan_in, is_accepted}
use Rattle.rewrite.specs.RewriteAt.{Focus, focus}
use Rattle.rewrite.specs.RowTest.{Tested, row_ok, no_test, test_predicate, test_plan, test_focus, row_test_bytes}
use Rattle.rewrite.specs.Utils.{any_fn}
use Rattle.push_down_filter.proofs.push_down_filter_row_test.Goals as goal
use Rattle.push_down_filter.proofs.push_down_filter_row_test.Goals.{in-Ok, in-Err}

-- the record fits 32 bits
abbrev Small : Tested → Type 0
Small t = t.place < 4294967296

either : (b : Bool) (x y : Tested) → Small x → Small y → Small (choose b x y)
unfolding choose
either true x y h k = h
either false x y h k = k

module _ (n : ℕ) (zs : List ℤ) (ms : List ℕ) (l : n < 4294967296) where
  small_predicate : (e : Expr) (p : Plan) → Small (test_predicate n e p zs ms)
  unfolding test_predicate no_test
  small_predicate e p =
      either (not (row_ok (types p) zs ms)) _ _ (omega arith) (either (any_fn (λ q. true) e) _ _ l (omega arith))

  small_plan : (p : Plan) → Small (test_plan n p zs ms)
  unfolding test_plan no_test
  small_plan (filter e p) = small_predicate e p
  small_plan (scan t fs es) = l
  small_plan (project es p) = l
  small_plan (join k a b on f) = l
  small_plan (alias q p) = l
  small_plan (union ps) = l
  small_plan (distinct p) = l
  small_plan (sort f ks p) = l
  small_plan (repartition p) = l
  small_plan (limit i j p) = l
  small_plan (aggregate gs ags p) = l
  small_plan (window ws p) = l

  small_focus : (o : Option Focus) → Small (test_focus n o zs ms)
  unfolding test_focus no_test
  small_focus none = l
  small_focus (some c) = small_plan c.plan

  small : (s : List ℕ) → Small (row_test_bytes s n zs ms)
  unfolding row_test_bytes no_test
  small s = either (is_accepted s) _ _ (small_focus (focus n (plan_in s))) (omega (arith, place_within s))

-- so it does of an answer, whatever the node
fits : (s : List ℕ) (n : ℕ) (zs : List ℤ) (ms : List ℕ) {t : Tested} → t ≡ row_test_bytes s n zs ms → n < 4294967296 → Small t
fits s n zs ms i l = subst Small (sym i) (small n zs ms l s)

pub overflow_cast-number : goal.overflow_cast-number
unfolding no_test
overflow_cast-number c =
    let h = fits _ _ _ _ c.in-Err.ensures (search rules) in
    omega (arith, h, c.record.ensures)

pub returns : goal.returns
unfolding no_test
returns c =
    elim c.match-answer.branch [
      | in-Ok w ↦ rw (w.number-is, c.truth_number.ensures, w.answer-is, w.in-Ok.is) w.in-Ok.ensures
      | in-Err w ↦ rw (w.number-is, w.number.ensures, w.record.ensures, c.truth_number.ensures, w.answer-is) w.in-Err.ensures
    ]
