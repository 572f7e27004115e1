-- Which predicates are of one class: the equalities, lower bounds and upper bounds of a column, and the others. The columns in order.
use Rattle.std.specs.Prelude.{Bool, true, false, ◌&&◌, List, [], ◌∷◌, map, ℕ, eqb}
use Rattle.std.specs.Prelude as P
use Rattle.std.proofs.Math.Option.{Option, none, some}
use Rattle.plan.specs.Syntax.{Expr, Name, nm}
use Rattle.plan.specs.Lists.{choose, keep}
use Rattle.rewrite.specs.SimplifyPredicates.{Rel, same_as, above, below, Item, Group, view, name_under}
use Rattle.simplify_expressions.specs.Seen.{named, side_in}
use Rattle.simplify_expressions.specs.declared.simplify_predicates.Class.{Class}
use Rattle.simplify_expressions.specs.declared.simplify_predicates.Class.TheVariants.{Equality, Lower, Upper, Other}
use Rattle.simplify_expressions.specs.declared.simplify_predicates.Name as declared

-- ---- classes

-- comparisons of the class say this of their column
abbrev pub is_of : Class → Rel → Bool
is_of Equality same_as = true
is_of Equality (above s) = false
is_of Equality (below s) = false
is_of Lower same_as = false
is_of Lower (above s) = true
is_of Lower (below s) = false
is_of Upper same_as = false
is_of Upper (above s) = false
is_of Upper (below s) = true
is_of Other same_as = false
is_of Other (above s) = false
is_of Other (below s) = false

abbrev pub is_other : Class → Bool
is_other Equality = false
is_other Lower = false
is_other Upper = false
is_other Other = true

abbrev pub is_name : Name → ℕ → ℕ → Bool
is_name (nm q n) p m = eqb q p && eqb n m

unfoldable pub in_class : Class → ℕ → ℕ → Option Item → Bool
in_class k q n none = is_other k
in_class k q n (some i) = is_of k i.rel && is_name i.key q n

abbrev pub of_class : Class → ℕ → ℕ → Expr → Bool
of_class k q n e = in_class k q n (view e)

-- the predicates of one column
abbrev pub group_of : ℕ → ℕ → List Expr → Group
group_of q n es =
    record {
      key = nm q n;
      eqs = map side_in (keep (of_class Equality q n) es);
      ups = map side_in (keep (of_class Lower q n) es);
      downs = map side_in (keep (of_class Upper q n) es);
    }

-- ---- columns in order

abbrev pub key_of : P.Option declared.Name → Option Name
key_of (P.Some x) = some (named x)
key_of P.None = none

-- a column comes after the last one; any does after none
abbrev pub after : Option Name → Name → Bool
after none x = true
after (some l) x = name_under l x

-- one column comes before another; none does
abbrev pub precedes : Option Name → Name → Bool
precedes none x = false
precedes (some b) x = name_under b x

-- the first of two columns, if the one that an item compares comes after the last
unfoldable pub lesser : Option Name → Option Item → Option Name → Option Name
lesser last none best = best
lesser last (some i) best = choose (after last i.key) (choose (precedes best i.key) best (some i.key)) best

-- the first column after the last that a predicate compares
unfoldable pub least : Option Name → List Expr → Option Name
least last [] = none
least last (e ∷ es) = lesser last (view e) (least last es)
