-- A test of words alone says of a plan what it says of all records of the plan's tree.
use Prim.Native.Nat.{ℕ, ◌+◌}
use mathlib.Core.Path.{◌≡◌, refl, sym, ap, ◌∙◌}
use mathlib.Core.Bool.{Bool, true}
use mathlib.Core.List.{List}
use mathlib.Core.Option as O
use mathlib.Core.Option.{Option, some}
use lib.ListN.{length}
use lib.IntN.{ℤ}
use Rattle.image.specs.Tree.{Label, Forest, none}
use Rattle.image.specs.Lowest.{alone}
use Rattle.plan.specs.Lists.{◌&◌, all}
use Rattle.plan.proofs.Lists.{and_true, true_and}
use Rattle.plan.specs.Syntax.{Name, Expr, col, num, bool, nul, bin, neg, test, between, inlist, fn, Exprs, enil, econs, Field, Entry, Pair}
use Rattle.plan.specs.Syntax.{Key, AggEntry, WinEntry, Plan, scan, filter, project, join, alias, union, distinct, sort, repartition, limit}
use Rattle.plan.specs.Syntax.{aggregate, window, Plans, pnil, pcons}
use Rattle.plan.specs.Trees.{column_label, label_e, kids_e, forest_e, in_front, each, nothing_below, field_label, entry_label, entry_kids, pair_label}
use Rattle.plan.specs.Trees.{pair_kids, key_label, key_kids, agg_label, agg_kids, win_label, win_kids, filter_kids, label_p, kids_p, forest_p}
use Rattle.plan.specs.Trees.{plan_tree}
use Rattle.preservation.proofs.Everywhere.{Tests, count_e, count_p, good, good_all, good?, good_field, good_entry, good_pair, good_key}
use Rattle.preservation.proofs.Everywhere.{good_agg, good_win, everywhere, everywhere_all}
use Rattle.preservation.proofs.Rules.{passed, below, beside, sound, sound_each}

module _ (T : Tests) (any-number : (z : ℤ) → T.number z ≡ true) (any-length : (m n : ℕ) → T.least m n ≡ true) where
  abbrev pub words : Forest → Bool
  words f = sound (λ l cs. T.label l) f

  mutual
    unfolding sound good kids_e forest_e

    words_e : (e : Expr) (x : Bool) → T.label (label_e e) & (words (kids_e e) & x) ≡ good T e & x
    words_e (col y) x = ap (T.label (label_e (col y)) &◌) (true_and x)
    words_e (num z) x = below _ refl (sym (any-number z))
    words_e (bool b) x = ap (T.label (label_e (bool b)) &◌) (true_and x)
    words_e (nul t) x = ap (T.label (label_e (nul t)) &◌) (true_and x)
    words_e (bin o a b) x = below _ refl (beside _ (words_e a _) (words_e b true ∙ and_true _))
    words_e (neg a) x = below _ refl (words_e a true ∙ and_true _)
    words_e (test t a) x = below _ refl (words_e a true ∙ and_true _)
    words_e (between n a l h) x = below _ refl (beside _ (words_e a _) (beside _ (words_e l _) (words_e h true ∙ and_true _)))
    words_e (inlist n a xs) x = below _ refl (beside _ (words_e a _) (words_es xs) ∙ sym (passed (any-length 1 (count_e xs))))
    words_e (fn p q r xs) x = below _ refl (words_es xs)

    words_es : (xs : Exprs) → words (forest_e xs) ≡ good_all T xs
    words_es enil = refl
    words_es (econs y xs) = beside _ (words_e y _) (words_es xs)

  -- an expression that stands last
  last_e : (e : Expr) → words (in_front e none) ≡ good T e
  unfolding sound
  last_e e = words_e e true ∙ and_true _

  filter_words : (e : Expr) → T.label (label_e e) & words (kids_e e) ≡ good T e
  filter_words e = ap (T.label (label_e e) &◌) (sym (and_true _)) ∙ words_e e true ∙ and_true _

  own_words : (f : Option Expr) → words (filter_kids f) ≡ good? T f
  unfolding sound
  own_words O.none = refl
  own_words (some e) = last_e e

  field_words : (f : Field) → T.label (field_label f) & words none ≡ good_field T f
  unfolding sound
  field_words f = and_true _

  column_words : (x : Name) → T.label (column_label x) & words none ≡ T.label (column_label x)
  unfolding sound
  column_words x = and_true _

  entry_words : (e : Entry) → T.label (entry_label e) & words (entry_kids e) ≡ good_entry T e
  entry_words e = ap (T.label (entry_label e) &◌) (last_e e.expr)

  pair_words : (k : Pair) → T.label (pair_label k) & words (pair_kids k) ≡ good_pair T k
  unfolding sound
  pair_words k = ap (T.label (pair_label k) &◌) (beside _ (words_e k.lhs _) (last_e k.rhs))

  key_words : (k : Key) → T.label (key_label k) & words (key_kids k) ≡ good_key T k
  key_words k = ap (T.label (key_label k) &◌) (last_e k.expr)

  agg_words : (a : AggEntry) → T.label (agg_label a) & words (agg_kids a) ≡ good_agg T a
  agg_words a = ap (T.label (agg_label a) &◌) (last_e a.expr)

  -- runs of parts
  run : {A : Type 0} (l : A → Label) (k : A → Forest) (t : A → Bool) → ((x : A) → T.label (l x) & words (k x) ≡ t x)
      → (xs : List A) (ns : Forest) → words (each l k xs ns) ≡ all t xs & words ns
  run l k t is xs ns = sound_each (λ l cs. T.label l) l k t is xs ns

  win_words : (w : WinEntry) → T.label (win_label w) & words (win_kids w) ≡ good_win T w
  unfolding sound
  win_words w =
      ap (T.label (win_label w) &◌) (beside _ (words_e w.expr _) (run column_label nothing_below _ column_words w.parts none ∙ and_true _))

  mutual
    unfolding sound everywhere kids_p forest_p

    words_p : (p : Plan) (x : Bool) → T.label (label_p p) & (words (kids_p p) & x) ≡ everywhere T p & x
    words_p (scan t fs es) x =
        below _ refl (beside _ (run field_label nothing_below _ field_words fs _) (run label_e kids_e _ filter_words es none ∙ and_true _))
    words_p (filter e p) x = below _ refl (beside _ (words_e e _) (words_p p true ∙ and_true _))
    words_p (project es p) x =
        below _ refl (beside _ (run entry_label entry_kids _ entry_words es _) (words_p p true ∙ and_true _) ∙ sym (passed (any-length 1 (length es))))
    words_p (join k l r on f) x =
        below _ refl (beside _ (words_p l _) (beside _ (words_p r _) (beside _ (run pair_label pair_kids _ pair_words on _) (own_words f))))
    words_p (alias q p) x = below _ refl (words_p p true ∙ and_true _)
    words_p (union ps) x = below _ refl (words_ps ps ∙ sym (passed (any-length 2 (count_p ps))))
    words_p (distinct p) x = below _ refl (words_p p true ∙ and_true _)
    words_p (sort f ks p) x = below _ refl (beside _ (run key_label key_kids _ key_words ks _) (words_p p true ∙ and_true _))
    words_p (repartition p) x = below _ refl (words_p p true ∙ and_true _)
    words_p (limit n k p) x = below _ refl (words_p p true ∙ and_true _)
    words_p (aggregate gs ags p) x =
        below _ refl (beside _ (run entry_label entry_kids _ entry_words gs _)
        (beside _ (run agg_label agg_kids _ agg_words ags _) (words_p p true ∙ and_true _))
        ∙ sym (passed (any-length 1 (length gs + length ags))))
    words_p (window ws p) x =
        below _ refl (beside _ (run win_label win_kids _ win_words ws _) (words_p p true ∙ and_true _) ∙ sym (passed (any-length 1 (length ws))))

    words_ps : (ps : Plans) → words (forest_p ps) ≡ everywhere_all T ps
    words_ps pnil = refl
    words_ps (pcons p ps) = beside _ (words_p p _) (words_ps ps)

  -- the law: the test of a plan is the test of all labels of its tree
  pub words_tree : (p : Plan) → words (alone (plan_tree p)) ≡ everywhere T p
  unfolding sound
  words_tree p = words_p p true ∙ and_true _
