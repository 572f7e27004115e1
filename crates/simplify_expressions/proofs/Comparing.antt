-- Laws of comparisons as they are read.
--     not_compared, operands      which expressions are comparisons, and of what
--     make_none, make_none₂       what is made where there is no literal or no column
--     first_seen, unwrapped, after_by, precedes_by    what the methods of Option come to
-- Assumes nothing.
use mathlib.Core.Path.{◌≡◌, refl, sym, ap, subst, ◌∙◌}
use mathlib.Core.Option.{Option, none, some}
use Rattle.image.specs.Subtrees.{Siblings, Subtree, Split, forest, tree_of}
use Rattle.image.specs.Tree.{Forest, none, node, Tree}
use Rattle.plan.specs.Kinds as Kinds
use Rattle.plan.specs.Kinds.{What, expr, plan, part, unknown, what, what_of, among}
use Rattle.plan.specs.Syntax.{Cmp, Op, and, or, cmp, Expr, col, num, bool, nul, bin, neg, test, between, inlist, fn, nm, Name}
use Rattle.plan.specs.Trees.{label_e, kids_e, expr_tree}
use Rattle.plan.specs.Integers.{FitsE}
use Rattle.plan.specs.Values.{ValueRecord, literal?}
use Rattle.plan.proofs.Literals.{literal_read}
use Rattle.plan.proofs.Written.{op_back}
use Rattle.rewrite.specs.SimplifyPredicates.{Rel, Item, as_column, as_literal, make, or_item, view}
use Rattle.std.specs.Prelude as P
use Rattle.std.specs.Prelude.{MatchOption, IsTrue, Bool, true, false}
use Rattle.std.specs.Option.{unwrap_or}
use Rattle.rewrite.specs.SimplifyPredicates.{name_under}
use Rattle.simplify_expressions.specs.Seen.{named, seen, side_of, side_of?, column_of, value_in, comparison_at, comparison_of, matched_in}
use Rattle.simplify_expressions.specs.Classes.{key_of, after, precedes}
use Rattle.simplify_expressions.specs.declared.simplify_predicates.Bound.{Bound}
use Rattle.simplify_expressions.specs.declared.simplify_predicates.Name as Declared

-- ---- operands

column_is : (e : Expr) → column_of (label_e e) ≡ as_column e
unfolding label_e as_column column_of what_of among
column_is (col (nm q n)) = refl
column_is (num z) = refl
column_is (bool b) = refl
column_is (nul t) = refl
column_is (bin o a b) = refl
column_is (neg a) = refl
column_is (test t a) = refl
column_is (between n a l u) = refl
column_is (inlist n a xs) = refl
column_is (fn p q r xs) = refl

value_is : (e : Expr) → FitsE e → value_in (label_e e) ≡ as_literal e
unfolding as_literal
value_is e f = ap literal? (literal_read e f)

-- ---- which expressions are comparisons

pub record Binary (e : Expr) (c : Cmp) : Type 0 where
  pub lhs : Expr
  pub rhs : Expr
  pub is : e ≡ bin (cmp c) lhs rhs

pub not_compared : (e : Expr) → none ≡ comparison_of (label_e e) → none ≡ view e
unfolding label_e view comparison_of what_of among
not_compared (col x) h = refl
not_compared (num z) h = refl
not_compared (bool b) h = refl
not_compared (nul t) h = refl
not_compared (bin and a b) h = refl
not_compared (bin or a b) h = refl
not_compared (bin (cmp c) a b) h = let e : none ≡ some c = rw op_back at h in cc
not_compared (neg a) h = refl
not_compared (test t a) h = refl
not_compared (between n a l u) h = refl
not_compared (inlist n a xs) h = refl
not_compared (fn p q r xs) h = refl

binary_by : (o : Op) (a b : Expr) (c : Cmp) → some c ≡ comparison_at (expr Kinds.Binary) o → Binary (bin o a b) c
binary_by and a b c h = cc
binary_by or a b c h = cc
binary_by (cmp d) a b c h = let e : c ≡ d = cc in record { lhs = a; rhs = b; is = ap (λ (x : Cmp). bin (cmp x) a b) (sym e) }

binary : (e : Expr) (c : Cmp) → some c ≡ comparison_of (label_e e) → Binary e c
unfolding label_e comparison_of what_of among
binary (bin o a b) c h = binary_by o a b c (rw op_back at h)
binary (col x) c h = cc
binary (num z) c h = cc
binary (bool b) c h = cc
binary (nul t) c h = cc
binary (neg a) c h = cc
binary (test t a) c h = cc
binary (between n a l u) c h = cc
binary (inlist n a xs) c h = cc
binary (fn p q r xs) c h = cc

come_to : (c : Cmp) (a b : Expr) → FitsE (bin (cmp c) a b) → matched_in c (label_e a) (label_e b) ≡ view (bin (cmp c) a b)
unfolding view matched_in
come_to c a b h = rw (column_is a, column_is b, value_is a h.0, value_is b h.1)

-- the trees of the operands, and what they come to
pub record Operands (f : Forest) (c : Cmp) (e : Expr) : Type 0 where
  pub left : Tree
  pub right : Tree
  pub is : f ≡ node left.label left.below (node right.label right.below none)
  pub come : FitsE e → matched_in c left.label right.label ≡ view e

operands_of : (c : Cmp) (x y : Expr) → Operands (kids_e (bin (cmp c) x y)) c (bin (cmp c) x y)
unfolding kids_e
operands_of c x y = record { left = expr_tree x; right = expr_tree y; is = refl; come = come_to c x y }

pub operands : {t : Tree} (e : Expr) (c : Cmp) → t ≡ expr_tree e → some c ≡ comparison_of t.label → Operands t.below c e
operands {t} e c h k =
    let u = binary e c (rw h at k) in
    rw h (subst (λ (x : Expr). Operands (kids_e x) c x) (sym u.is) (operands_of c u.lhs u.rhs))

-- .. as the code has them
module _ {f : Forest} {c : Cmp} {e : Expr} (h : Operands f c e) where
  pub some_left : f ≡ none → ⊥
  some_left z = let k = sym z ∙ h.is in cc

  module _ (x y : Siblings) (l : Subtree) (is : forest x ≡ f) (a : Split x l y) where
    left : node (tree_of l).label (tree_of l).below (forest y) ≡ node h.left.label h.left.below (node h.right.label h.right.below none)
    left = sym a.is ∙ is ∙ h.is

    pub some_right : forest y ≡ none → ⊥
    some_right z = let k = left in cc

    pub come_at : (r : Subtree) (z : Siblings) → Split y r z → FitsE e → matched_in c (tree_of l).label (tree_of r).label ≡ view e
    come_at r z b fits =
        let k = left in
        let m = b.is in
        let p : (tree_of l).label ≡ h.left.label = cc in
        let q : (tree_of r).label ≡ h.right.label = cc in
        rw (p, q) (h.come fits)

-- ---- what is made of a column and a literal

pub make_none : (f : Bool) (o : Option Rel) (x : Option Name) → none ≡ make f o x none
unfolding make
make_none f none x = refl
make_none f (some r) none = refl
make_none f (some r) (some x) = refl

pub make_none₂ : (f : Bool) (o : Option Rel) (l : Option ValueRecord) → none ≡ make f o none l
unfolding make
make_none₂ f none l = refl
make_none₂ f (some r) l = refl

-- the first, or else what a call gave
pub first_seen : (Q : Type 0) (o r : P.Option Bound) {x y : Option Item} → seen o ≡ x → MatchOption o Q (λ b. r ≡ P.Some b)
    → (Q → seen r ≡ y) → seen r ≡ or_item x y
unfolding or_item
first_seen Q (P.Some b) r e h f = rw (← e, h)
first_seen Q P.None r e h f = rw (← e) (f h)

-- ---- where nothing else is known of a record

pub unwrapped : (o : P.Option Bound) (d : Bound) → side_of? none ≡ side_of d → side_of (unwrap_or o d) ≡ side_of? (seen o)
unfolding side_of?
unwrapped (P.Some b) d e = refl
unwrapped P.None d e = sym e

-- ---- columns in order

pub after_by : (Q : Declared.Name → Type 0) (o : P.Option Declared.Name) (x : Name) (r : Bool) → MatchOption o (IsTrue r) Q
    → ((l : Declared.Name) → Q l → r ≡ name_under (named l) x) → r ≡ after (key_of o) x
after_by Q P.None x r h f = h
after_by Q (P.Some l) x r h f = f l h

pub precedes_by : (Q : Declared.Name → Type 0) (o : P.Option Declared.Name) (x : Name) (r : Bool) → MatchOption o (r ≡ false) Q
    → ((l : Declared.Name) → Q l → r ≡ name_under (named l) x) → r ≡ precedes (key_of o) x
precedes_by Q P.None x r h f = h
precedes_by Q (P.Some l) x r h f = f l h
