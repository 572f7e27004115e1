-- What the name rules say of a join's fields: they are few, and no two are one; and a key's partner is one of them.
-- Assumes nothing.
use mathlib.Core.Path.{◌≡◌, refl, ap, subst}
use mathlib.Core.Bool.{Bool, true, false, ◌||◌, cond}
use mathlib.Core.List.{List, [], ◌∷◌, ◌++◌}
use mathlib.Core.Option as O
use mathlib.Core.Option.{Option, some}
use Prim.Native.Nat.{ℕ, ◌≤◌}
use lib.ListN.{length}
use borrow.Author.Tests.{leb-true}
use Rattle.image.specs.Limits.{max_fields}
use Rattle.image.specs.Subtrees.{tree_of}
use Rattle.image.specs.declared.trees.Stretch.{Stretch}
use Rattle.image.specs.Tree.{Tree}
use Rattle.plan.specs.Columns.{on_cols}
use Rattle.plan.specs.Lists.{◌&◌, all, any}
use Rattle.plan.specs.Schema.{has, same, schema, nodup}
use Rattle.plan.specs.Syntax.{Name, Expr, col, num, bool, nul, bin, neg, test, between, inlist, fn, Pair, Kind, Plan, join}
use Rattle.plan.specs.Trees.{label_p, kids_p, plan_tree}
use Rattle.plan.proofs.Lists.{and_l, and_r}
use Rattle.acceptance.specs.Names.{sound}
use Rattle.acceptance.proofs.NamesRule.{names_nodup}
use Rattle.acceptance.specs.NamesRule.{rule, ok}
use Rattle.rewrite.specs.SimplifyPredicates.{as_column}
use Rattle.rewrite.specs.PushDownFilter.{pair_of, partner}
use Rattle.push_down_base.specs.Inputs.{Few, Two}
use Rattle.push_down_base.proofs.FirstTwo.{two_are}
use Rattle.push_down_join.specs.Partners.{or_self}
use Rattle.push_down_join.specs.Scopes.{swap}

module _ (k : Kind) (l r : Plan) (on : List Pair) (f : Option Expr) (h : ok (join k l r on f) ≡ true) where
  pub join_short : length (schema l ++ schema r) ≤ max_fields
  unfolding rule sound
  join_short = leb-true (length (schema l ++ schema r)) max_fields (and_r _ _ (and_l _ _ h))

  pub join_single : nodup (schema l ++ schema r) ≡ true
  unfolding rule
  join_single = names_nodup (schema l ++ schema r) (and_l _ _ h)

  pub keys_read : all (λ (k : Pair). on_cols (has (schema l)) k.lhs & on_cols (has (schema r)) k.rhs) on ≡ true
  unfolding rule
  keys_read = and_l _ _ (and_r _ _ h)

-- ---- a key's partner is a field

pub front : (s t : List Name) (y : Name) → has s y ≡ true → has (s ++ t) y ≡ true
unfolding any
front [] t y h = cc
front (z ∷ s) t y h = go (same z y) h (front s t y)
  where
    go : (b : Bool) → (b || has s y) ≡ true → (has s y ≡ true → has (s ++ t) y ≡ true) → (b || has (s ++ t) y) ≡ true
    go true h f = refl
    go false h f = f h

pub back : (s t : List Name) (y : Name) → has t y ≡ true → has (s ++ t) y ≡ true
unfolding any
back [] t y h = h
back (z ∷ s) t y h = rw (back s t y h) (go (same z y))
  where
    go : (b : Bool) → (b || true) ≡ true
    go true = refl
    go false = refl

-- a column among the keys reads its side
column_read : (c : Name → Bool) (e : Expr) (y : Name) → as_column e ≡ some y → on_cols c e ≡ true → c y ≡ true
unfolding as_column on_cols
column_read c (col x) y e h = let z : x ≡ y = cc in rw (← z) h
column_read c (num z) y e h = cc
column_read c (bool b) y e h = cc
column_read c (nul t) y e h = cc
column_read c (bin o a b) y e h = cc
column_read c (neg a) y e h = cc
column_read c (test t a) y e h = cc
column_read c (between n a l u) y e h = cc
column_read c (inlist n a xs) y e h = cc
column_read c (fn p q r xs) y e h = cc

module _ (s t : List Name) (x : Name) (held : has (s ++ t) x ≡ true) where
  pub swap_has : (on : List Pair) → all (λ (k : Pair). on_cols (has s) k.lhs & on_cols (has t) k.rhs) on ≡ true → has (s ++ t)
      (swap on x) ≡ true
  unfolding partner pair_of all
  swap_has [] h = held
  swap_has (k ∷ on) h =
      go (as_column k.lhs) (as_column k.rhs) refl refl (swap_has on (and_r _ _ h))
    where
      go : (a b : Option Name) → as_column k.lhs ≡ a → as_column k.rhs ≡ b → has (s ++ t) (swap on x) ≡ true
          → has (s ++ t) (or_self x (pair_of x a b (partner on x))) ≡ true
      go O.none b ea eb rest = rest
      go (some y) O.none ea eb rest = rest
      go (some y) (some z) ea eb rest = at (same y x) (same z x)
        where
          at : (u v : Bool) → has (s ++ t) (or_self x (cond u (some z) (cond v (some y) (partner on x)))) ≡ true
          at true v = back s t z (column_read (has t) k.rhs z eb (and_r _ _ (and_l _ _ h)))
          at false true = front s t y (column_read (has s) k.lhs y ea (and_l _ _ (and_l _ _ h)))
          at false false = rest

-- a join has two inputs
pub join_two : {N : ℕ} (t : Stretch N) (k : Kind) (l r : Plan) (on : List Pair) (f : Option Expr) → tree_of t ≡ plan_tree (join k l r on f)
    → Few (tree_of t).below → ⊥
unfolding kids_p
join_two t k l r on f h few = subst Few (ap (λ (u : Tree). u.below) h) few

module _ {N : ℕ} {t a b : Stretch N} (w : Two t a b) (k : Kind) (l r : Plan) (on : List Pair) (f : Option Expr) (h : tree_of t ≡ plan_tree (join k l r on f)) where
  -- they are its first two children
  pub inputs_are : (tree_of a ≡ plan_tree l) × (tree_of b ≡ plan_tree r)
  unfolding label_p kids_p
  inputs_are = two_are w (ap (λ (u : Tree). u.below) h)
