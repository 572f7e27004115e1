-- The columns that an expression reads.
use Rattle.std.specs.Prelude.{Bool, true}
use Rattle.plan.specs.Lists.{◌&◌}
use Rattle.plan.specs.Syntax.{Name, Expr, col, num, bool, nul, bin, neg, test, between, inlist, fn, Exprs, enil, econs}

unfoldable mutual
  -- every column passes the test
  pub on_cols : (Name → Bool) → Expr → Bool
  on_cols c (col x) = c x
  on_cols c (num z) = true
  on_cols c (bool b) = true
  on_cols c (nul t) = true
  on_cols c (bin o a b) = on_cols c a & on_cols c b
  on_cols c (neg a) = on_cols c a
  on_cols c (test t a) = on_cols c a
  on_cols c (between n a l h) = on_cols c a & (on_cols c l & on_cols c h)
  on_cols c (inlist n a xs) = on_cols c a & on_cols_all c xs
  on_cols c (fn p q r xs) = on_cols_all c xs

  pub on_cols_all : (Name → Bool) → Exprs → Bool
  on_cols_all c enil = true
  on_cols_all c (econs x xs) = on_cols c x & on_cols_all c xs
