-- A test of every record of a plan, made of three: of a record's words, of an integer, of the length of a run that may not be too short.
-- Words, integers and form are tests of this shape, and what the rewrite keeps is proved once for all of them.
use Prim.Native.Nat.{ℕ, suc, ◌+◌}
use mathlib.Core.Path.{◌≡◌, refl}
use mathlib.Core.Bool.{Bool, true, false}
use mathlib.Core.Option.{Option, none, some}
use lib.IntN.{ℤ}
use lib.ListN.{length}
use Rattle.image.specs.Tree.{Label}
use Rattle.plan.specs.Lists.{◌&◌, all}
use Rattle.plan.specs.Syntax.{Name, Op, Expr, col, num, bool, nul, bin, neg, test, between, inlist, fn, Exprs, enil, econs, Field, Entry}
use Rattle.plan.specs.Syntax.{Pair, Key, AggEntry, WinEntry, Plan, scan, filter, project, join, alias, union, distinct, sort, repartition}
use Rattle.plan.specs.Syntax.{limit, aggregate, window, Plans, pnil, pcons}
use Rattle.plan.specs.Schema.{requalify}
use Rattle.plan.specs.Trees.{column_label, label_e, field_label, entry_label, pair_label, key_label, agg_label, win_label, label_p}

pub record Tests : Type 0 where
  -- the words of a record
  pub label : Label → Bool
  -- an integer literal
  pub number : ℤ → Bool
  -- a run that must have so many, of which there are so many
  pub least : ℕ → ℕ → Bool

abbrev pub count_e : Exprs → ℕ
count_e enil = 0
count_e (econs x xs) = suc (count_e xs)

abbrev pub count_p : Plans → ℕ
count_p pnil = 0
count_p (pcons p ps) = suc (count_p ps)

module _ (T : Tests) where
  unfoldable mutual
    -- an expression with all in it
    pub good : Expr → Bool
    good (col x) = T.label (label_e (col x))
    good (num z) = T.label (label_e (num z)) & T.number z
    good (bool b) = T.label (label_e (bool b))
    good (nul t) = T.label (label_e (nul t))
    good (bin o a b) = T.label (label_e (bin o a b)) & (good a & good b)
    good (neg a) = T.label (label_e (neg a)) & good a
    good (test t a) = T.label (label_e (test t a)) & good a
    good (between n a l h) = T.label (label_e (between n a l h)) & (good a & (good l & good h))
    good (inlist n a xs) = T.label (label_e (inlist n a xs)) & (T.least 1 (count_e xs) & (good a & good_all xs))
    good (fn p q r xs) = T.label (label_e (fn p q r xs)) & good_all xs

    pub good_all : Exprs → Bool
    good_all enil = true
    good_all (econs x xs) = good x & good_all xs

  abbrev pub good? : Option Expr → Bool
  good? none = true
  good? (some e) = good e

  -- the parts of plans
  abbrev pub good_field : Field → Bool
  good_field f = T.label (field_label f)

  abbrev pub good_entry : Entry → Bool
  good_entry e = T.label (entry_label e) & good e.expr

  abbrev pub good_pair : Pair → Bool
  good_pair k = T.label (pair_label k) & (good k.lhs & good k.rhs)

  abbrev pub good_key : Key → Bool
  good_key k = T.label (key_label k) & good k.expr

  abbrev pub good_agg : AggEntry → Bool
  good_agg a = T.label (agg_label a) & good a.expr

  abbrev pub good_win : WinEntry → Bool
  good_win w = T.label (win_label w) & (good w.expr & all (λ x. T.label (column_label x)) w.parts)

  unfoldable mutual
    -- a plan with all in it
    pub everywhere : Plan → Bool
    everywhere (scan t fs es) = T.label (label_p (scan t fs es)) & (all good_field fs & all good es)
    everywhere (filter e p) = T.label (label_p (filter e p)) & (good e & everywhere p)
    everywhere (project es p) = T.label (label_p (project es p)) & (T.least 1 (length es) & (all good_entry es & everywhere p))
    everywhere (join k l r on f) = T.label (label_p (join k l r on f)) & (everywhere l & (everywhere r & (all good_pair on & good? f)))
    everywhere (alias q p) = T.label (label_p (alias q p)) & everywhere p
    everywhere (union ps) = T.label (label_p (union ps)) & (T.least 2 (count_p ps) & everywhere_all ps)
    everywhere (distinct p) = T.label (label_p (distinct p)) & everywhere p
    everywhere (sort f ks p) = T.label (label_p (sort f ks p)) & (all good_key ks & everywhere p)
    everywhere (repartition p) = T.label (label_p (repartition p)) & everywhere p
    everywhere (limit n k p) = T.label (label_p (limit n k p)) & everywhere p
    everywhere (aggregate gs ags p) =
        T.label (label_p (aggregate gs ags p)) & (T.least 1 (length gs + length ags) & (all good_entry gs & (all good_agg ags & everywhere p)))
    everywhere (window ws p) = T.label (label_p (window ws p)) & (T.least 1 (length ws) & (all good_win ws & everywhere p))

    pub everywhere_all : Plans → Bool
    everywhere_all pnil = true
    everywhere_all (pcons p ps) = everywhere p & everywhere_all ps

-- what the rewrite makes, it makes of what it has: the records that it adds, and the names of a schema where columns stand
pub record Closed (T : Tests) : Type 0 where
  pub binary : (o : Op) (a b : Expr) → T.label (label_e (bin o a b)) ≡ true
  pub false_literal : T.label (label_e (bool false)) ≡ true
  pub filters : (e : Expr) (p : Plan) → T.label (label_p (filter e p)) ≡ true
  pub of_field : (f : Field) → T.label (field_label f) ≡ true → T.label (column_label f.name) ≡ true
  pub of_entry : (e : Entry) → T.label (entry_label e) ≡ true → T.label (column_label e.name) ≡ true
  pub of_agg : (a : AggEntry) → T.label (agg_label a) ≡ true → T.label (column_label a.name) ≡ true
  pub of_win : (w : WinEntry) → T.label (win_label w) ≡ true → T.label (column_label w.name) ≡ true
  pub of_alias : (q : ℕ) (p : Plan) (x : Name) → T.label (label_p (alias q p)) ≡ true → T.label (column_label x) ≡ true
      → T.label (column_label (requalify q x)) ≡ true

-- where a record's words do not matter, all of this is plain
pub any_words : (number : ℤ → Bool) (least : ℕ → ℕ → Bool) → Closed (record { label = λ l. true; number = number; least = least })
any_words number least = record {
  binary = λ o a b. refl;
  false_literal = refl;
  filters = λ e p. refl;
  of_field = λ f h. refl;
  of_entry = λ e h. refl;
  of_agg = λ a h. refl;
  of_win = λ w h. refl;
  of_alias = λ q p x h k. refl;
}
