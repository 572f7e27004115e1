-- Laws of the partners of columns.
--     pair_is                         the partner in a pair of columns
--     key_none, key_is, few_pair,     the partner in a record: it is no pair, it has too few below it, or both keys
--     two_pair
--     partner_stop, partner_step      the partner along the children of a record
-- Assumes nothing.
use mathlib.Core.Path.{◌≡◌, refl}
use mathlib.Core.Bool.{Bool, true, false, ◌&&◌, cond}
use mathlib.Core.Option as O
use mathlib.Core.Option.{Option, some}
use lib.Dec.{eqb}
use borrow.Author.Tests.{eq-eqb, ne_eqb}
use Rattle.std.specs.Prelude as P
use Rattle.std.specs.Option.{is_some}
use Prim.Native.Nat.{ℕ}
use Rattle.image.specs.Subtrees.{tree_of}
use Rattle.image.specs.declared.trees.Stretch.{Stretch}
use Rattle.image.specs.Tree.{Label, Forest, none, node}
use Rattle.plan.specs.Lists.{◌&◌}
use Rattle.plan.specs.Syntax.{Name}
use Rattle.rewrite.specs.PushDownFilter.{pair_of}
use Rattle.utils.specs.Fields.{named}
use Rattle.utils.specs.declared.schema_columns.ColumnReference.{ColumnReference}
use Rattle.push_down_base.specs.Inputs.{Few, Two}
use Rattle.push_down_join.specs.Partners.{name_of, column_of, or_else, pair_in, key_in, partner_in}

-- ---- a pair of columns

both : (a b : Bool) → a & b ≡ (a && b)
unfolding ◌&◌
both true b = refl
both false b = refl

-- where one of two columns is the one that is looked for
pub pair_is : (x y z : ColumnReference) → pair_of (named x) (some (named y)) (some (named z)) O.none
    ≡ cond (eqb y.q x.q && eqb y.n x.n) (some (named z)) (cond (eqb z.q x.q && eqb z.n x.n) (some (named y)) O.none)
unfolding pair_of
pair_is x y z = rw (both (eqb y.q x.q) (eqb y.n x.n), both (eqb z.q x.q) (eqb z.n x.n))

-- ---- the partner in a record

module _ (x : Name) (l : Label) (cs : Forest) where
  -- it is no pair of keys
  pub key_none : (l.kind ≡ 50 → ⊥) → key_in x l cs ≡ O.none
  unfolding key_in
  key_none h = rw (ne_eqb l.kind 50 h)

  pub key_is : l.kind ≡ 50 → key_in x l cs ≡ pair_in x cs
  unfolding key_in
  key_is h = rw (eq-eqb l.kind 50 h)

pub few_pair : (z : Name) (f : Forest) → Few f → pair_in z f ≡ O.none
unfolding pair_in
few_pair z none h = refl
few_pair z (node l cs none) h = refl
few_pair z (node l cs (node m ds ns)) h = absurd h

pub two_pair : {N : ℕ} {t a b : Stretch N} (z : Name) → Two t a b
    → pair_in z (tree_of t).below ≡ pair_of z (column_of (tree_of a).label) (column_of (tree_of b).label) O.none
unfolding pair_in
two_pair z w = rw w.is

-- ---- along the children of a record

module _ (c : P.Option ColumnReference) (x : Name) (l : Label) (cs ns : Forest) (h : name_of c ≡ key_in x l cs) where
  pub partner_stop : is_some c ≡ true → name_of c ≡ partner_in x (node l cs ns)
  unfolding partner_in
  partner_stop e = first c (key_in x l cs) h e
    where
      first : (c : P.Option ColumnReference) (o : Option Name) → name_of c ≡ o → is_some c ≡ true → name_of c ≡ or_else o (partner_in x ns)
      first P.None o e k = cc
      first (P.Some y) o e k = rw (← e)

  pub partner_step : is_some c ≡ false → partner_in x (node l cs ns) ≡ partner_in x ns
  unfolding partner_in
  partner_step e = rest c (key_in x l cs) h e
    where
      rest : (c : P.Option ColumnReference) (o : Option Name) → name_of c ≡ o → is_some c ≡ false → or_else o (partner_in x ns) ≡ partner_in x ns
      rest P.None o e k = rw (← e)
      rest (P.Some y) o e k = cc
