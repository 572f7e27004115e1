-- The words of all records and the integers of a plan, as a test on plans.
use Prim.Native.Nat.{ℕ}
use mathlib.Core.Path.{◌≡◌, refl}
use mathlib.Core.Logic.Iff
use mathlib.Core.Logic.{◌↔◌}
use mathlib.Core.Bool.{Bool, true}
use native.Mathlib.Omega.{arith}
use borrow.Author.Tests.{le-leb}
use Rattle.image.specs.Tree.{Forest, none, node}
use Rattle.image.specs.Lowest.{alone}
use Rattle.plan.specs.Lists.{◌&◌}
use Rattle.plan.proofs.Lists.{and_l, and_r, and_intro}
use Rattle.plan.specs.Schema.{requalify}
use Rattle.plan.specs.Kinds.{among, what_of}
use Rattle.plan.specs.Words.{any_word, unused, name, in_range, row_fits, words_ok, Worded}
use Rattle.plan.specs.Syntax.{Name, nm, eq, ne, lt, le, gt, ge, Op, and, or, cmp, Expr, bin, Field, Entry, AggEntry, WinEntry, Plan, alias}
use Rattle.plan.specs.Integers.{FitsP}
use Rattle.plan.specs.Trees.{qualifier, ident, column_label, label_e, field_label, entry_label, agg_label, win_label, label_p, plan_tree}
use Rattle.preservation.proofs.Everywhere.{Tests, Closed, everywhere}
use Rattle.preservation.proofs.Tells.{Tells, tells_nothing, both, three}
use Rattle.preservation.proofs.IntegersTest.{Integers, integers_p}
use Rattle.preservation.proofs.Rules.{sound}
use Rattle.preservation.proofs.Labels.{words_tree}

-- ---- the test of words and integers

abbrev pub Words : Tests
Words = record { label = words_ok; number = λ z. true; least = λ m n. true }

unfoldable pub words_ok_plan : Plan → Bool
words_ok_plan p = everywhere Words p & everywhere Integers p

worded : (f : Forest) → Tells (sound (λ l cs. words_ok l) f) (Worded f)
unfolding sound
worded none = tells_nothing
worded (node l cs ns) = three Iff.rfl (worded cs) (worded ns)

-- the law of the test
pub words_ok_law : (p : Plan) → (words_ok_plan p ≡ true) ↔ (Worded (alone (plan_tree p)) × FitsP p)
unfolding words_ok_plan
words_ok_law p = both (rw (words_tree Words (λ z. refl) (λ m n. refl) p) at (worded (alone (plan_tree p)))) (integers_p p)

-- ---- what the rewrite adds has good words

operator_words : (o : Op) (a b : Expr) → words_ok (label_e (bin o a b)) ≡ true
unfolding words_ok label_e what_of among row_fits in_range ◌&◌
operator_words and a b = refl
operator_words or a b = refl
operator_words (cmp eq) a b = refl
operator_words (cmp ne) a b = refl
operator_words (cmp lt) a b = refl
operator_words (cmp le) a b = refl
operator_words (cmp gt) a b = refl
operator_words (cmp ge) a b = refl

unused_words : in_range unused 0 & (in_range unused 0 & in_range unused 0) ≡ true
unfolding in_range ◌&◌
unused_words = refl

-- a column may have the name of any record that begins with a qualifier and a name
name_words : (x : Name) (r : Bool) → in_range any_word (qualifier x) & (in_range name (ident x) & r) ≡ true → words_ok (column_label x) ≡ true
unfolding words_ok what_of among row_fits
name_words x r h = and_intro (and_l _ _ h) (and_intro (and_l _ _ (and_r _ _ h)) unused_words)

-- and the qualifier of an alias
alias_words : (q : ℕ) (p : Plan) (x : Name) → words_ok (label_p (alias q p)) ≡ true → words_ok (column_label x) ≡ true
    → words_ok (column_label (requalify q x)) ≡ true
unfolding words_ok what_of among row_fits in_range label_p
alias_words q p (nm r n) h k = and_intro (and_intro (le-leb 0 q (omega arith)) (and_r _ _ (and_l _ _ h))) (and_r _ _ k)

field_name : (f : Field) → words_ok (field_label f) ≡ true → words_ok (column_label f.name) ≡ true
unfolding words_ok what_of among row_fits
field_name f h = name_words f.name _ h

entry_name : (e : Entry) → words_ok (entry_label e) ≡ true → words_ok (column_label e.name) ≡ true
unfolding words_ok what_of among row_fits
entry_name e h = name_words e.name _ h

agg_name : (a : AggEntry) → words_ok (agg_label a) ≡ true → words_ok (column_label a.name) ≡ true
unfolding words_ok what_of among row_fits
agg_name a h = name_words a.name _ h

win_name : (w : WinEntry) → words_ok (win_label w) ≡ true → words_ok (column_label w.name) ≡ true
unfolding words_ok what_of among row_fits
win_name w h = name_words w.name _ h

pub words_closed : Closed Words
unfolding words_ok what_of among row_fits in_range label_e label_p ◌&◌
words_closed = record {
  binary = operator_words;
  false_literal = refl;
  filters = λ e p. refl;
  of_field = field_name;
  of_entry = entry_name;
  of_agg = agg_name;
  of_win = win_name;
  of_alias = alias_words;
}
