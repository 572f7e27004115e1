-- The partners of columns by the keys of a join, read off its records.
use Rattle.std.specs.Prelude as P
use Rattle.std.specs.Prelude.{cond, List, map, eqb}
use Rattle.std.proofs.Math.Option as O
use Rattle.std.proofs.Math.Option.{Option, some}
use Rattle.image.specs.Tree.{Label, Forest, none, node}
use Rattle.plan.specs.Kinds as K
use Rattle.plan.specs.Kinds.{number_e, number_q, PairPart}
use Rattle.plan.specs.Syntax.{Name, nm}
use Rattle.rewrite.specs.PushDownFilter.{pair_of, no_partner}
use Rattle.utils.specs.Fields.{Names, named}
use Rattle.utils.specs.Masks.{Masks}
use Rattle.utils.specs.declared.schema_columns.ColumnReference.{ColumnReference}
use Rattle.push_down_join.specs.declared.infer_join_predicates.Swapped as swapped

-- the struct of the code
abbrev pub Swapped : Type 0
Swapped = swapped.Swapped

-- the name of the code's column, if there is one
abbrev pub name_of : P.Option ColumnReference → Option Name
name_of P.None = O.none
name_of (P.Some x) = some (named x)

-- the name of a record that is a column
abbrev pub column_of : Label → Option Name
column_of l = cond (eqb l.kind (number_e K.Column)) (some (nm l.p l.q)) O.none

-- the first that there is
abbrev pub or_else : Option Name → Option Name → Option Name
or_else O.none o = o
or_else (some x) o = some x

-- the partner of a name, if the first two of a forest are columns and one of them has it
unfoldable pub pair_in : Name → Forest → Option Name
pair_in x none = O.none
pair_in x (node a cs none) = O.none
pair_in x (node a cs (node b ds ns)) = pair_of x (column_of a) (column_of b) O.none

-- the partner in a record with these below, if it is a pair of keys
unfoldable pub key_in : Name → Label → Forest → Option Name
key_in x l cs = cond (eqb l.kind (number_q PairPart)) (pair_in x cs) O.none

-- in the first of a forest that has one
unfoldable pub partner_in : Name → Forest → Option Name
partner_in x none = O.none
partner_in x (node l cs ns) = or_else (key_in x l cs) (partner_in x ns)

-- the partner where there is one, else the name itself
abbrev pub or_self : Name → Option Name → Name
or_self x O.none = x
or_self x (some y) = y

-- the fields of ns with each key's partner in its place, and the places of those that have none
pub record Swaps (r : Swapped) (f : Forest) (ns : List Name) : Type 0 where
  pub to : Names r.to (map (λ x. or_self x (partner_in x f)) ns)
  pub alone : Masks r.alone ns (λ x. no_partner (partner_in x f))
