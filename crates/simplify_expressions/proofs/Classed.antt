-- Laws of the classes of predicates.
--     same_class, no_class      a comparison's class, as the code computes it
--     others_are                the others of a list
--     eqs_spelled, ..           a comparison of a class and a column is what its side says
-- Assumes nothing.
use mathlib.Core.Path.{◌≡◌, refl, sym, ap, ap₂, ◌∙◌}
use mathlib.Core.Bool.{Bool, true, false, ◌&&◌}
use mathlib.Core.List.{List, [], ◌∷◌}
use mathlib.Core.Option.{Option, none, some}
use Prim.Native.Nat.{ℕ, zero, suc, ◌-◌, ◌≤◌, ◌<◌}
use native.Mathlib.Omega.{arith}
use lib.Dec.{eqb}
use lib.ListN.{length, get_or, drop}
use borrow.Author.Tests.{eqb-true}
use Rattle.plan.specs.Syntax.{Expr, Name, nm}
use Rattle.plan.specs.Lists.{choose, put, keep, All, anil, acons}
use Rattle.rewrite.specs.SimplifyPredicates.{Rel, same_as, above, below, Side, Item, Sorted, bound_of, eq_expr, up_expr, down_expr, view}
use Rattle.rewrite.specs.SimplifyPredicates.{add, sort_out}
use Rattle.rewrite.proofs.Simplify.{view_back}
use Rattle.conjuncts.specs.Items.{FALSE}
use Rattle.conjuncts.proofs.Listed.{next_back}
use Rattle.conjuncts.proofs.Equals.{and_both}
use Rattle.std.specs.Prelude as P
use Rattle.simplify_expressions.specs.declared.simplify_predicates.Bound.{Bound}
use Rattle.simplify_expressions.specs.Seen.{named, relation_in, seen, strict_r, side_of?, side_in, Spelled}
use Rattle.simplify_expressions.specs.Classes.{is_of, is_other, is_name, in_class, of_class, after, precedes, lesser, least}
use Rattle.simplify_expressions.specs.declared.simplify_predicates.Class.{Class}
use Rattle.simplify_expressions.specs.declared.simplify_predicates.Class.TheVariants.{Equality, Lower, Upper, Other}

-- ---- as the code computes them

pub same_class : {x : P.Option Bound} {b : Bound} (k : Class) (q n : ℕ) {r : Bool} → x ≡ P.Some b → r ≡ is_of k (relation_in b.relation)
    → (r && (eqb b.column.q q && eqb b.column.n n)) ≡ in_class k q n (seen x)
unfolding in_class
same_class k q n e h = rw (e, h)

pub no_class : {x : P.Option Bound} (k : Class) (q n : ℕ) {r : Bool} → x ≡ P.None → r ≡ is_other k → r ≡ in_class k q n (seen x)
unfolding in_class
no_class k q n e h = rw e h

-- ---- the others

add_others : (e : Expr) (o : Option Item) (s : Sorted) → (add e o s).others ≡ put (in_class Other 0 0 o) e s.others
unfolding put in_class
add_others e none s = refl
add_others e (some i) s = go i.rel
  where
    go : (r : Rel) → s.others ≡ put (in_class Other 0 0 (some (record { key = i.key; rel = r; lit = i.lit; flipped = i.flipped }))) e s.others
    go same_as = refl
    go (above b) = refl
    go (below b) = refl

pub others_are : (es : List Expr) → keep (of_class Other 0 0) es ≡ (sort_out es).others
unfolding keep sort_out
others_are [] = refl
others_are (e ∷ es) = sym (add_others e (view e) (sort_out es) ∙ ap (put (of_class Other 0 0 e) e) (sym (others_are es)))

-- ---- what is kept

put_passes : {P : Expr → Type 0} (b : Bool) (x : Expr) {xs : List Expr} → (b ≡ true → P x) → All P xs → All P (put b x xs)
unfolding put
put_passes true x h hs = acons (h refl) hs
put_passes false x h hs = hs

keep_passes : {P : Expr → Type 0} (f : Expr → Bool) → ((x : Expr) → f x ≡ true → P x) → (xs : List Expr) → All P (keep f xs)
unfolding keep
keep_passes f h [] = anil
keep_passes f h (x ∷ xs) = put_passes (f x) x (h x) (keep_passes f h xs)

all_at : {P : Expr → Type 0} {xs : List Expr} → All P xs → (i : ℕ) → i < length xs → P (get_or xs i FALSE)
all_at anil i lt = absurd (omega arith)
all_at (acons h hs) zero lt = h
all_at (acons h hs) (suc i) lt = all_at hs i (omega arith)

put_few : (b : Bool) (x : Expr) (xs : List Expr) → length (put b x xs) ≤ suc (length xs)
unfolding put
put_few true x xs = omega arith
put_few false x xs = omega arith

pub keep_few : (f : Expr → Bool) (xs : List Expr) → length (keep f xs) ≤ length xs
unfolding keep
keep_few f [] = omega arith
keep_few f (x ∷ xs) = omega (arith, keep_few f xs, put_few (f x) x (keep f xs))

-- ---- a comparison is what its side says

name_eq : (x : Name) (q n : ℕ) → is_name x q n ≡ true → x ≡ nm q n
name_eq (nm p m) q n h = let a = and_both _ _ h in ap₂ nm (eqb-true p q a.0) (eqb-true m n a.1)

-- the class k is the relation `rel` by strictness
module _ (k : Class) (rel : Bool → Rel) (other : is_other k ≡ false) (is : (r : Rel) → is_of k r ≡ true → r ≡ rel (strict_r r)) (q n : ℕ) where
  abbrev spell : Side → Expr
  spell d = bound_of d.flipped (rel d.strict) (nm q n) d.lit

  said : (e : Expr) (o : Option Item) → view e ≡ o → in_class k q n o ≡ true → spell (side_of? o) ≡ e
  unfolding in_class side_of?
  said e none v h = let z : true ≡ false = sym h ∙ other in cc
  said e (some i) v h =
      let a = and_both _ _ h in
      let r : i.rel ≡ rel (strict_r i.rel) = is i.rel a.0 in
      let x : i.key ≡ nm q n = name_eq i.key q n a.1 in
      sym (ap₂ (λ (r : Rel) (x : Name). bound_of i.flipped r x i.lit) r x) ∙ view_back e v

  spelled : (es : List Expr) → Spelled spell (keep (of_class k q n) es)
  spelled es = all_at {P = λ e. spell (side_in e) ≡ e} (keep_passes (of_class k q n) (λ e h. said e (view e) refl h) es)

is_equal : (r : Rel) → is_of Equality r ≡ true → r ≡ same_as
is_equal same_as h = refl
is_equal (above s) h = cc
is_equal (below s) h = cc

is_lower : (r : Rel) → is_of Lower r ≡ true → r ≡ above (strict_r r)
is_lower same_as h = cc
is_lower (above s) h = refl
is_lower (below s) h = cc

is_upper : (r : Rel) → is_of Upper r ≡ true → r ≡ below (strict_r r)
is_upper same_as h = cc
is_upper (above s) h = cc
is_upper (below s) h = refl

pub eqs_spelled : (q n : ℕ) (es : List Expr) → Spelled (eq_expr (nm q n)) (keep (of_class Equality q n) es)
eqs_spelled q n = spelled Equality (λ s. same_as) refl is_equal q n

pub ups_spelled : (q n : ℕ) (es : List Expr) → Spelled (up_expr (nm q n)) (keep (of_class Lower q n) es)
ups_spelled q n = spelled Lower above refl is_lower q n

pub downs_spelled : (q n : ℕ) (es : List Expr) → Spelled (down_expr (nm q n)) (keep (of_class Upper q n) es)
downs_spelled q n = spelled Upper below refl is_upper q n

-- ---- columns in order, as the code finds them

module _ {x : P.Option Bound} (last best : Option Name) where
  pub lesser_none : x ≡ P.None → best ≡ lesser last (seen x) best
  unfolding lesser
  lesser_none e = rw e

  pub lesser_out : {b : Bound} → x ≡ P.Some b → after last (named b.column) ≡ false → best ≡ lesser last (seen x) best
  unfolding lesser choose
  lesser_out e a = rw (e, a)

  pub lesser_held : {b : Bound} → x ≡ P.Some b → after last (named b.column) ≡ true → precedes best (named b.column) ≡ true
      → best ≡ lesser last (seen x) best
  unfolding lesser choose
  lesser_held e a h = rw (e, a, h)

  pub lesser_new : {b : Bound} → x ≡ P.Some b → after last (named b.column) ≡ true → precedes best (named b.column) ≡ false
      → some (named b.column) ≡ lesser last (seen x) best
  unfolding lesser choose
  lesser_new e a h = rw (e, a, h)

pub least_next : (last : Option Name) (es : List Expr) (i : ℕ) → (i ≡ 0 → ⊥) → i ≤ length es → (o : Option Item) → o ≡ view (get_or es (i - 1) FALSE)
    → lesser last o (least last (drop i es)) ≡ least last (drop (i - 1) es)
unfolding least
least_next last es i nz h o e = rw (next_back es i nz h, ← e)
