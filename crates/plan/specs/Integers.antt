-- Plans whose integers 64 bits hold. No image has others.
use Rattle.std.specs.Prelude.{◌<◌, List, [], ◌∷◌, ℤ, pos, negsuc}
use Rattle.std.proofs.Math.Option as O
use Rattle.std.proofs.Math.Option.{Option, some}
use Rattle.plan.specs.Syntax.{Expr, col, num, bool, nul, bin, neg, test, between, inlist, fn, Exprs, enil, econs, Entry, Pair, Key}
use Rattle.plan.specs.Syntax.{AggEntry, WinEntry, Plan, scan, filter, project, join, alias, union, distinct, sort, repartition, limit}
use Rattle.plan.specs.Syntax.{aggregate, window, Plans, pnil, pcons}

-- the numbers that 64 bits hold
abbrev pub FitsZ : ℤ → Type 0
FitsZ (pos n) = n < 9223372036854775808
FitsZ (negsuc n) = n < 9223372036854775808

abbrev mutual
  pub FitsE : Expr → Type 0
  FitsE (col x) = Unit {0}
  FitsE (num z) = FitsZ z
  FitsE (bool b) = Unit {0}
  FitsE (nul t) = Unit {0}
  FitsE (bin o a b) = FitsE a × FitsE b
  FitsE (neg a) = FitsE a
  FitsE (test t a) = FitsE a
  FitsE (between n a l h) = FitsE a × FitsE l × FitsE h
  FitsE (inlist n a xs) = FitsE a × FitsEs xs
  FitsE (fn p q r xs) = FitsEs xs

  pub FitsEs : Exprs → Type 0
  FitsEs enil = Unit {0}
  FitsEs (econs x xs) = FitsE x × FitsEs xs

module _ {A : Type 0} (P : A → Type 0) where
  abbrev pub Every : List A → Type 0
  Every [] = Unit {0}
  Every (x ∷ xs) = P x × Every xs

abbrev pub Fits? : Option Expr → Type 0
Fits? O.none = Unit {0}
Fits? (some e) = FitsE e

abbrev mutual
  pub FitsP : Plan → Type 0
  FitsP (scan t fs es) = Every FitsE es
  FitsP (filter e p) = FitsE e × FitsP p
  FitsP (project es p) = Every (λ (e : Entry). FitsE e.expr) es × FitsP p
  FitsP (join k l r on f) = FitsP l × FitsP r × Every (λ (k : Pair). FitsE k.lhs × FitsE k.rhs) on × Fits? f
  FitsP (alias q p) = FitsP p
  FitsP (union ps) = FitsPs ps
  FitsP (distinct p) = FitsP p
  FitsP (sort f ks p) = Every (λ (k : Key). FitsE k.expr) ks × FitsP p
  FitsP (repartition p) = FitsP p
  FitsP (limit n k p) = FitsP p
  FitsP (aggregate gs ags p) = Every (λ (e : Entry). FitsE e.expr) gs × Every (λ (a : AggEntry). FitsE a.expr) ags × FitsP p
  FitsP (window ws p) = Every (λ (w : WinEntry). FitsE w.expr) ws × FitsP p

  pub FitsPs : Plans → Type 0
  FitsPs pnil = Unit {0}
  FitsPs (pcons p ps) = FitsP p × FitsPs ps
