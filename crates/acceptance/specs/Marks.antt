-- A mark for each record of a plan, in the order in which its image has them. The marks of a test are true where the record keeps its rule,
-- and the record that the test names is the first whose mark is false. That the order is the image's: `in_order` of proofs/InOrder.antt.
use Rattle.std.specs.Prelude.{List, [], ◌∷◌, ◌++◌, map}
use Rattle.std.proofs.Math.Option.{Option, none, some}
use Rattle.plan.specs.Lists.{flatten}
use Rattle.plan.specs.Syntax.{Expr, col, num, bool, nul, bin, neg, test, between, inlist, fn, Exprs, enil, econs, Field, Entry, Pair, Key}
use Rattle.plan.specs.Syntax.{AggEntry, WinEntry, Plan, scan, filter, project, join, alias, union, distinct, sort, repartition, limit}
use Rattle.plan.specs.Syntax.{aggregate, window, Plans, pnil, pcons}

-- ---- expressions: the record, then its children in order

module _ {M : Type 0} (rule : Expr → M) where
  unfoldable mutual
    pub marks_in : Expr → List M
    marks_in (col x) = rule (col x) ∷ []
    marks_in (num z) = rule (num z) ∷ []
    marks_in (bool b) = rule (bool b) ∷ []
    marks_in (nul t) = rule (nul t) ∷ []
    marks_in (bin o a b) = rule (bin o a b) ∷ (marks_in a ++ marks_in b)
    marks_in (neg a) = rule (neg a) ∷ marks_in a
    marks_in (test t a) = rule (test t a) ∷ marks_in a
    marks_in (between n a l u) = rule (between n a l u) ∷ (marks_in a ++ marks_in l ++ marks_in u)
    marks_in (inlist n a xs) = rule (inlist n a xs) ∷ (marks_in a ++ marks_in_all xs)
    marks_in (fn p q r xs) = rule (fn p q r xs) ∷ marks_in_all xs

    pub marks_in_all : Exprs → List M
    marks_in_all enil = []
    marks_in_all (econs x xs) = marks_in x ++ marks_in_all xs

  abbrev pub marks_in? : Option Expr → List M
  marks_in? none = []
  marks_in? (some e) = marks_in e

-- ---- plans

-- the marks of the records, one by one, each over what it stands over
pub record Rules (M : Type 0) : Type 0 where
  -- of a plan
  pub plan : Plan → M
  -- of an expression over the fields of a plan; over those of both inputs of a join
  pub over : Plan → Expr → M
  pub both : Plan → Plan → Expr → M
  -- of the parts 48 to 53: a key pair with its join's inputs, an entry 52 or 53 with its input
  pub field : Field → M
  pub entry : Entry → M
  pub pair : Plan → Plan → Pair → M
  pub key : Key → M
  pub agg : Plan → AggEntry → M
  pub win : Plan → WinEntry → M

module _ {M : Type 0} (R : Rules M) where
  abbrev pub entry_marks : Plan → Entry → List M
  entry_marks p e = R.entry e ∷ marks_in (R.over p) e.expr

  abbrev pub pair_marks : Plan → Plan → Pair → List M
  pair_marks l r k = R.pair l r k ∷ (marks_in (R.over l) k.lhs ++ marks_in (R.over r) k.rhs)

  abbrev pub key_marks : Plan → Key → List M
  key_marks p k = R.key k ∷ marks_in (R.over p) k.expr

  abbrev pub agg_marks : Plan → AggEntry → List M
  agg_marks p a = R.agg p a ∷ marks_in (R.over p) a.expr

  -- the partition columns are references
  abbrev pub win_marks : Plan → WinEntry → List M
  win_marks p w = R.win p w ∷ (marks_in (R.over p) w.expr ++ map (λ x. R.over p (col x)) w.parts)

  -- the filters of a scan stand over its own fields, a join's filter over both inputs, all else over the one input
  unfoldable mutual
    pub marks_of : Plan → List M
    marks_of (scan t fs es) = R.plan (scan t fs es) ∷ (map R.field fs ++ flatten (marks_in (R.over (scan t fs es))) es)
    marks_of (filter e p) = R.plan (filter e p) ∷ (marks_in (R.over p) e ++ marks_of p)
    marks_of (project es p) = R.plan (project es p) ∷ (flatten (entry_marks p) es ++ marks_of p)
    marks_of (join k l r on f) =
        R.plan (join k l r on f) ∷ (marks_of l ++ marks_of r ++ flatten (pair_marks l r) on ++ marks_in? (R.both l r) f)
    marks_of (alias q p) = R.plan (alias q p) ∷ marks_of p
    marks_of (union ps) = R.plan (union ps) ∷ marks_of_all ps
    marks_of (distinct p) = R.plan (distinct p) ∷ marks_of p
    marks_of (sort f ks p) = R.plan (sort f ks p) ∷ (flatten (key_marks p) ks ++ marks_of p)
    marks_of (repartition p) = R.plan (repartition p) ∷ marks_of p
    marks_of (limit n k p) = R.plan (limit n k p) ∷ marks_of p
    marks_of (aggregate gs ags p) = R.plan (aggregate gs ags p) ∷ (flatten (entry_marks p) gs ++ flatten (agg_marks p) ags ++ marks_of p)
    marks_of (window ws p) = R.plan (window ws p) ∷ (flatten (win_marks p) ws ++ marks_of p)

    pub marks_of_all : Plans → List M
    marks_of_all pnil = []
    marks_of_all (pcons p ps) = marks_of p ++ marks_of_all ps
