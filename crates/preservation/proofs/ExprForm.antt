-- The form of expressions: which children a record has, and how many conjuncts.
use Prim.Native.Nat.{suc, ◌+◌}
use native.Mathlib.Omega.{arith}
use mathlib.Core.Path.{◌≡◌, refl, sym, ap, ap₂, ◌∙◌}
use mathlib.Core.Bool.{Bool, true, false, cond}
use lib.Dec.{leb}
use lib.ListN.{length, length-append}
use borrow.Author.Tests.{le-leb}
use Rattle.image.specs.Tree.{Label, Forest, none}
use Rattle.plan.specs.Lists.{◌&◌}
use Rattle.plan.proofs.Lists.{and_true, true_and}
use Rattle.plan.specs.Kinds as K
use Rattle.plan.specs.Kinds.{expr, part, what, what_of, among, expr_w, is_expr}
use Rattle.plan.specs.Form.{end, one, past, many, children_e, children_q, is_and, conjuncts, form_ok}
use Rattle.plan.specs.Syntax.{eq, ne, lt, le, gt, ge, and, or, cmp, Expr, col, num, bool, nul, bin, neg, test, between, inlist, fn, Exprs}
use Rattle.plan.specs.Syntax.{enil, econs}
use Rattle.plan.specs.Trees.{label_e, kids_e, forest_e, in_front}
use Rattle.rewrite.specs.Utils.{split_conjunction}
use Rattle.preservation.proofs.Everywhere.{Tests, count_e, good, good_all}
use Rattle.preservation.proofs.Rules.{passed, below, beside, sound}

-- runs that may not be empty
abbrev pub Runs : Tests
Runs = record { label = λ l. true; number = λ z. true; least = leb }

-- ---- kinds

abbrev kind_e : Expr → K.ExprKind
kind_e (col x) = K.Column
kind_e (num z) = K.Integer
kind_e (bool b) = K.Boolean
kind_e (nul t) = K.Null
kind_e (bin o a b) = K.Binary
kind_e (neg a) = K.Not
kind_e (test t a) = K.Test
kind_e (between n a l h) = K.Between
kind_e (inlist n a xs) = K.InList
kind_e (fn p q r xs) = K.Function

what_e : (e : Expr) → what (label_e e) ≡ expr (kind_e e)
unfolding label_e what_of among
what_e (col x) = refl
what_e (num z) = refl
what_e (bool b) = refl
what_e (nul t) = refl
what_e (bin o a b) = refl
what_e (neg a) = refl
what_e (test t a) = refl
what_e (between n a l h) = refl
what_e (inlist n a xs) = refl
what_e (fn p q r xs) = refl

pub is_expr_lem : (e : Expr) → is_expr (label_e e) ≡ true
is_expr_lem e = ap expr_w (what_e e)

-- ---- the children of an expression

-- of an expression, and of a part, the children alone are tested
form_e_is : (e : Expr) (cs : Forest) → form_ok (label_e e) cs ≡ children_e (kind_e e) cs
unfolding form_ok
form_e_is e cs = rw (what_e e) (and_true _)

pub form_q_is : (q : K.PartKind) (l : Label) (cs : Forest) → what l ≡ part q → form_ok l cs ≡ children_q q cs
unfolding form_ok
form_q_is q l cs h = rw h (and_true _)

pub one_expr : (rest : Forest → Bool) (e : Expr) (ns : Forest) → one is_expr rest (in_front e ns) ≡ rest ns
unfolding one
one_expr rest e ns = passed (is_expr_lem e)

past_exprs : (xs : Exprs) → past is_expr (forest_e xs) ≡ none
unfolding past forest_e
past_exprs enil = refl
past_exprs (econs x xs) = rw (is_expr_lem x) (past_exprs xs)

-- an InList has items
abbrev enough : Expr → Bool
enough (col x) = true
enough (num z) = true
enough (bool b) = true
enough (nul t) = true
enough (bin o a b) = true
enough (neg a) = true
enough (test t a) = true
enough (between n a l h) = true
enough (inlist n a xs) = leb 1 (count_e xs)
enough (fn p q r xs) = true

some_items : (xs : Exprs) → one is_expr (many is_expr end) (forest_e xs) ≡ leb 1 (count_e xs)
unfolding one end forest_e
some_items enil = refl
some_items (econs x xs) = passed (is_expr_lem x) ∙ ap end (past_exprs xs) ∙ sym (le-leb 1 (suc (count_e xs)) (omega arith))

children_e_lem : (e : Expr) → children_e (kind_e e) (kids_e e) ≡ enough e
unfolding kids_e end
children_e_lem (col x) = refl
children_e_lem (num z) = refl
children_e_lem (bool b) = refl
children_e_lem (nul t) = refl
children_e_lem (bin o a b) = one_expr _ a _ ∙ one_expr _ b _
children_e_lem (neg a) = one_expr _ a _
children_e_lem (test t a) = one_expr _ a _
children_e_lem (between n a l h) = one_expr _ a _ ∙ one_expr _ l _ ∙ one_expr _ h _
children_e_lem (inlist n a xs) = one_expr _ a _ ∙ some_items xs
children_e_lem (fn p q r xs) = ap end (past_exprs xs)

form_node : (e : Expr) → form_ok (label_e e) (kids_e e) ≡ enough e
form_node e = form_e_is e (kids_e e) ∙ children_e_lem e

mutual
  unfolding sound good kids_e forest_e

  pub form_e : (e : Expr) (x : Bool) → form_ok (label_e e) (kids_e e) & (sound form_ok (kids_e e) & x) ≡ good Runs e & x
  form_e (col y) x = ap₂ ◌&◌ (form_node (col y)) (true_and x)
  form_e (num z) x = below _ (form_node (num z)) refl
  form_e (bool b) x = ap₂ ◌&◌ (form_node (bool b)) (true_and x)
  form_e (nul t) x = ap₂ ◌&◌ (form_node (nul t)) (true_and x)
  form_e (bin o a b) x = below _ (form_node (bin o a b)) (beside _ (form_e a _) (form_e b true ∙ and_true _))
  form_e (neg a) x = below _ (form_node (neg a)) (form_e a true ∙ and_true _)
  form_e (test t a) x = below _ (form_node (test t a)) (form_e a true ∙ and_true _)
  form_e (between n a l h) x =
      below _ (form_node (between n a l h)) (beside _ (form_e a _) (beside _ (form_e l _) (form_e h true ∙ and_true _)))
  form_e (inlist n a xs) x = below _ (form_node (inlist n a xs)) (beside _ (form_e a _) (form_es xs)) ∙ sym (ap (◌& x) (true_and _))
  form_e (fn p q r xs) x = below _ (form_node (fn p q r xs)) (form_es xs)

  form_es : (xs : Exprs) → sound form_ok (forest_e xs) ≡ good_all Runs xs
  form_es enil = refl
  form_es (econs y xs) = beside _ (form_e y _) (form_es xs)

-- an expression that stands last
pub last_e : (e : Expr) → sound form_ok (in_front e none) ≡ good Runs e
unfolding sound
last_e e = form_e e true ∙ and_true _

-- ---- conjuncts

-- of expressions only an And is split
abbrev splits : Expr → Bool
splits (bin and a b) = true
splits (bin or a b) = false
splits (bin (cmp c) a b) = false
splits (col x) = false
splits (num z) = false
splits (bool b) = false
splits (nul t) = false
splits (neg a) = false
splits (test t a) = false
splits (between n a l h) = false
splits (inlist n a xs) = false
splits (fn p q r xs) = false

is_and_lem : (e : Expr) → is_and (label_e e) (kids_e e) ≡ splits e
unfolding is_and label_e kids_e end ◌&◌
is_and_lem (bin and a b) = one_expr _ a _ ∙ one_expr _ b _
is_and_lem (bin or a b) = refl
is_and_lem (bin (cmp eq) a b) = refl
is_and_lem (bin (cmp ne) a b) = refl
is_and_lem (bin (cmp lt) a b) = refl
is_and_lem (bin (cmp le) a b) = refl
is_and_lem (bin (cmp gt) a b) = refl
is_and_lem (bin (cmp ge) a b) = refl
is_and_lem (col x) = refl
is_and_lem (num z) = refl
is_and_lem (bool b) = refl
is_and_lem (nul t) = refl
is_and_lem (neg a) = refl
is_and_lem (test t a) = refl
is_and_lem (between n a l h) = refl
is_and_lem (inlist n a xs) = refl
is_and_lem (fn p q r xs) = refl

conjuncts_is : (e : Expr) (ns : Forest) → conjuncts (in_front e ns) ≡ cond (splits e) (conjuncts (kids_e e)) 1 + conjuncts ns
unfolding conjuncts
conjuncts_is e ns = rw (is_expr_lem e, is_and_lem e)

pub conjuncts_none : conjuncts none ≡ 0
unfolding conjuncts
conjuncts_none = refl

conjuncts_and : (a b : Expr) → conjuncts (kids_e (bin and a b)) ≡ conjuncts (in_front a (in_front b none))
unfolding kids_e
conjuncts_and a b = refl

pub conjuncts_split : (e : Expr) (ns : Forest) → conjuncts (in_front e ns) ≡ length (split_conjunction e) + conjuncts ns
unfolding split_conjunction
conjuncts_split (bin and a b) ns =
    conjuncts_is (bin and a b) ns
    ∙ rw (
      conjuncts_and a b,
      conjuncts_split a (in_front b none),
      conjuncts_split b none,
      length-append (split_conjunction a) (split_conjunction b),
      conjuncts_none,
    ) (omega arith)
conjuncts_split (bin or a b) ns = conjuncts_is (bin or a b) ns
conjuncts_split (bin (cmp c) a b) ns = conjuncts_is (bin (cmp c) a b) ns
conjuncts_split (col x) ns = conjuncts_is (col x) ns
conjuncts_split (num z) ns = conjuncts_is (num z) ns
conjuncts_split (bool b) ns = conjuncts_is (bool b) ns
conjuncts_split (nul t) ns = conjuncts_is (nul t) ns
conjuncts_split (neg a) ns = conjuncts_is (neg a) ns
conjuncts_split (test t a) ns = conjuncts_is (test t a) ns
conjuncts_split (between n a l h) ns = conjuncts_is (between n a l h) ns
conjuncts_split (inlist n a xs) ns = conjuncts_is (inlist n a xs) ns
conjuncts_split (fn p q r xs) ns = conjuncts_is (fn p q r xs) ns
