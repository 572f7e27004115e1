-- The literal of a comparison is a record that is right. Assumes nothing.
use mathlib.Core.Path.{◌≡◌, refl, sym, subst}
use mathlib.Core.Bool.{Bool, true, false}
use mathlib.Core.Option.{Option, none, some}
use Rattle.plan.specs.Syntax.{Name, Expr, col, num, bool, nul, bin, and, or, cmp, neg, test, between, inlist, fn}
use Rattle.plan.specs.Values.{ValueRecord, Right, agrees, literal_in, literal?}
use Rattle.rewrite.specs.SimplifyPredicates.{Rel, Item, rel_of, as_literal, as_column, make, or_item, view}
use Rattle.simplify_expressions.specs.Seen.{seen}
use Rattle.simplify_expressions.specs.declared.simplify_predicates.Bound.{Bound}
use Rattle.std.specs.Prelude as P
use Rattle.std.specs.Option.{unwrap_or}

abbrev right? : Option ValueRecord → Bool
right? none = true
right? (some v) = agrees v.ty v.case

abbrev right_item : Option Item → Bool
right_item none = true
right_item (some i) = agrees i.lit.ty i.lit.case

right_literal : (e : Expr) → right? (as_literal e) ≡ true
unfolding as_literal literal? literal_in
right_literal (num z) = refl
right_literal (bool b) = refl
right_literal (nul t) = refl
right_literal (col x) = refl
right_literal (bin o a b) = refl
right_literal (neg a) = refl
right_literal (test t a) = refl
right_literal (between n a l u) = refl
right_literal (inlist n a xs) = refl
right_literal (fn p q r xs) = refl

right_made : (f : Bool) (r : Option Rel) (x : Option Name) (v : Option ValueRecord) → right? v ≡ true → right_item (make f r x v) ≡ true
unfolding make
right_made f none x v h = refl
right_made f (some r) none v h = refl
right_made f (some r) (some x) none h = refl
right_made f (some r) (some x) (some v) h = h

right_either : (a b : Option Item) → right_item a ≡ true → right_item b ≡ true → right_item (or_item a b) ≡ true
unfolding or_item
right_either none b h k = k
right_either (some i) b h k = h

right_view : (e : Expr) → right_item (view e) ≡ true
unfolding view
right_view (bin (cmp o) a b) =
    right_either (make false (rel_of false o) (as_column a) (as_literal b)) (make true (rel_of true o) (as_column b) (as_literal a))
    (right_made false (rel_of false o) (as_column a) (as_literal b) (right_literal b))
    (right_made true (rel_of true o) (as_column b) (as_literal a) (right_literal a))
right_view (bin and a b) = refl
right_view (bin or a b) = refl
right_view (col x) = refl
right_view (num z) = refl
right_view (bool b) = refl
right_view (nul t) = refl
right_view (neg a) = refl
right_view (test t a) = refl
right_view (between n a l u) = refl
right_view (inlist n a xs) = refl
right_view (fn p q r xs) = refl

pub right_unwrapped : (e : Expr) (o : P.Option Bound) (d : Bound) → seen o ≡ view e → Right d.value → Right (unwrap_or o d).value
right_unwrapped e P.None d h k = k
right_unwrapped e (P.Some b) d h k = subst (λ (o : Option Item). right_item o ≡ true) (sym h) (right_view e)
