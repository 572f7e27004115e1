-- The functions in an expression are those in its tree.
-- Assumes nothing.
use mathlib.Core.Path.{◌≡◌, refl}
use mathlib.Core.Bool.{Bool, true, false, ◌||◌}
use Prim.Native.Nat.{ℕ}
use Rattle.plan.specs.Syntax.{Expr, col, num, bool, nul, bin, neg, test, between, inlist, fn, Exprs, enil, econs}
use Rattle.plan.specs.Trees.{expr_tree, label_e, kids_e, forest_e}
use Rattle.rewrite.specs.Utils.{any_fn, any_fn_all}
use Rattle.conjuncts.specs.Functions.{fn_any, fn_in}

pub or_nil : (a : Bool) → (a || false) ≡ a
or_nil true = refl
or_nil false = refl

mutual
  unfolding label_e kids_e forest_e any_fn any_fn_all

  pub fn_tree : (c : ℕ → Bool) (e : Expr) → fn_in c (expr_tree e) ≡ any_fn c e
  fn_tree c (col x) = refl
  fn_tree c (num z) = refl
  fn_tree c (bool b) = refl
  fn_tree c (nul t) = refl
  fn_tree c (bin o a b) = rw (or_nil, fn_tree c a, fn_tree c b)
  fn_tree c (neg a) = rw (or_nil, fn_tree c a)
  fn_tree c (test t a) = rw (or_nil, fn_tree c a)
  fn_tree c (between n a l u) = rw (or_nil, fn_tree c a, fn_tree c l, fn_tree c u)
  fn_tree c (inlist n a xs) = rw (fn_tree c a, fn_all c xs)
  fn_tree c (fn p q r xs) = rw (fn_all c xs)

  fn_all : (c : ℕ → Bool) (es : Exprs) → fn_any c (forest_e es) ≡ any_fn_all c es
  fn_all c enil = refl
  fn_all c (econs x xs) = rw (fn_tree c x, fn_all c xs)
