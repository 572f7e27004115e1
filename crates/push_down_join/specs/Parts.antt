-- What of a list of conjuncts one side of a join gets.
use Rattle.std.specs.Prelude.{Bool, List, ◌++◌, ℕ}
use Rattle.plan.specs.Syntax.{Name, Expr, Pair}
use Rattle.rewrite.specs.PushDownFilter.{if_list, push_not, push_to, rest}
use Rattle.conjuncts.specs.Items.{Known}
use Rattle.push_down_base.specs.Parting.{Reads}
use Rattle.push_down_join.specs.Scopes.{keyed_left, keyed_right}
use Rattle.push_down_join.specs.declared.push_down_all_join.Part as declared
use Rattle.push_down_join.specs.declared.push_down_all_join.Parts as parts

-- the structs of the code
abbrev pub Part : Type 0
Part = declared.Part

abbrev pub Parts : Type 0
Parts = parts.Parts

-- its lists are these, and read ns
pub record Parted (s : List ℕ) (ns : List Name) (z : Part) (a i u : List Expr) : Type 0 where
  pub moved : Reads s ns z.moved a
  pub keyed : Reads s ns z.keyed i
  pub rest : Reads s ns z.rest u

-- its lists are whole
pub record Wholes (s : List ℕ) (z : Part) : Type 0 where
  pub moved : Known s z.moved
  pub keyed : Known s z.keyed
  pub rest : Known s z.rest

-- the parts of the list es over the schemas l and r, by the sides that are preserved, p and q; inner: whether the join is Inner
pub record PartsOf (s : List ℕ) (p q inner : Bool) (l r : List Name) (on : List Pair) (es : List Expr) (z : Parts) : Type 0 where
  pub left : Parted s (l ++ r) z.left (push_to p l es) (keyed_left inner l on es) (if_list p (rest p q l r es))
  pub right : Parted s (l ++ r) z.right (push_to q r (push_not p l es)) (keyed_right inner l r on es) (if_list q (rest p q l r es))
  pub rest : Reads s (l ++ r) z.rest (rest p q l r es)
