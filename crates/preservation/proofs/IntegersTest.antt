-- The integers of a plan have 64 bits, as a test on plans.
use mathlib.Core.Bool.{true, decide, decide_iff}
use mathlib.Core.Option.{Option, none, some}
use native.Mathlib.Decide.{dec_lt}
use lib.IntN.{ℤ, pos, negsuc}
use Rattle.plan.specs.Lists.{◌&◌}
use Rattle.plan.proofs.Lists.{and_true, all_true}
use Rattle.plan.specs.Syntax.{Expr, col, num, bool, nul, bin, neg, test, between, inlist, fn, Exprs, enil, econs, Entry, Pair, Key}
use Rattle.plan.specs.Syntax.{AggEntry, WinEntry, Plan, scan, filter, project, join, alias, union, distinct, sort, repartition, limit}
use Rattle.plan.specs.Syntax.{aggregate, window, Plans, pnil, pcons}
use Rattle.plan.specs.Integers.{FitsZ, FitsE, FitsEs, Fits?, FitsP, FitsPs}
use Rattle.preservation.proofs.Everywhere.{Tests, good, good_all, good?, good_entry, good_pair, good_key, good_agg, good_win}
use Rattle.preservation.proofs.Everywhere.{everywhere, everywhere_all}
use Rattle.preservation.proofs.Tells.{Tells, tells_nothing, both, three, four, every}

-- whether 64 bits hold it, by the bounds of FitsZ
pub fits? : (z : ℤ) → Dec (FitsZ z)
fits? (pos n) = dec_lt n _
fits? (negsuc n) = dec_lt n _

abbrev pub Integers : Tests
Integers = record { label = λ l. true; number = λ z. decide (fits? z); least = λ m n. true }

mutual
  unfolding good ◌&◌

  integers_e : (e : Expr) → Tells (good Integers e) (FitsE e)
  integers_e (col x) = tells_nothing
  integers_e (num z) = decide_iff (fits? z)
  integers_e (bool b) = tells_nothing
  integers_e (nul t) = tells_nothing
  integers_e (bin o a b) = both (integers_e a) (integers_e b)
  integers_e (neg a) = integers_e a
  integers_e (test t a) = integers_e a
  integers_e (between n a l h) = three (integers_e a) (integers_e l) (integers_e h)
  integers_e (inlist n a xs) = both (integers_e a) (integers_es xs)
  integers_e (fn p q r xs) = integers_es xs

  integers_es : (xs : Exprs) → Tells (good_all Integers xs) (FitsEs xs)
  integers_es enil = tells_nothing
  integers_es (econs x xs) = both (integers_e x) (integers_es xs)

integers_own : (f : Option Expr) → Tells (good? Integers f) (Fits? f)
integers_own none = tells_nothing
integers_own (some e) = integers_e e

entry : (e : Entry) → Tells (good_entry Integers e) (FitsE e.expr)
unfolding ◌&◌
entry e = integers_e e.expr

pair : (k : Pair) → Tells (good_pair Integers k) (FitsE k.lhs × FitsE k.rhs)
unfolding ◌&◌
pair k = both (integers_e k.lhs) (integers_e k.rhs)

key : (k : Key) → Tells (good_key Integers k) (FitsE k.expr)
unfolding ◌&◌
key k = integers_e k.expr

agg : (a : AggEntry) → Tells (good_agg Integers a) (FitsE a.expr)
unfolding ◌&◌
agg a = integers_e a.expr

win : (w : WinEntry) → Tells (good_win Integers w) (FitsE w.expr)
unfolding ◌&◌
win w = rw (all_true w.parts, and_true) (integers_e w.expr)

mutual
  unfolding everywhere ◌&◌

  pub integers_p : (p : Plan) → Tells (everywhere Integers p) (FitsP p)
  integers_p (scan t fs es) = rw (all_true fs) (every _ FitsE integers_e es)
  integers_p (filter e p) = both (integers_e e) (integers_p p)
  integers_p (project es p) = both (every _ _ entry es) (integers_p p)
  integers_p (join k l r on f) = four (integers_p l) (integers_p r) (every _ _ pair on) (integers_own f)
  integers_p (alias q p) = integers_p p
  integers_p (union ps) = integers_ps ps
  integers_p (distinct p) = integers_p p
  integers_p (sort f ks p) = both (every _ _ key ks) (integers_p p)
  integers_p (repartition p) = integers_p p
  integers_p (limit n k p) = integers_p p
  integers_p (aggregate gs ags p) = three (every _ _ entry gs) (every _ _ agg ags) (integers_p p)
  integers_p (window ws p) = both (every _ _ win ws) (integers_p p)

  integers_ps : (ps : Plans) → Tells (everywhere_all Integers ps) (FitsPs ps)
  integers_ps pnil = tells_nothing
  integers_ps (pcons p ps) = both (integers_p p) (integers_ps ps)
