-- The fields of a join's inputs, and lists of conjuncts over them.
use Rattle.std.specs.Prelude.{◌≡◌, Bool, true, not, List, ◌++◌, map, ℕ, ◌≤◌}
use Rattle.image.specs.Limits.{max_fields}
use Rattle.plan.specs.Columns.{on_cols}
use Rattle.plan.specs.Lists.{keep}
use Rattle.plan.specs.Schema.{has}
use Rattle.plan.specs.Syntax.{Name, Expr, Pair}
use Rattle.rewrite.specs.PushDownFilter.{partner, no_partner, if_list, swap_keys}
use Rattle.conjuncts.specs.Items.{Conjuncts}
use Rattle.utils.specs.Fields.{Names}
use Rattle.utils.specs.Masks.{Masks}
use Rattle.push_down_base.specs.Parting.{Reads}
use Rattle.push_down_join.specs.Partners.{or_self}
use Rattle.push_down_join.specs.declared.column_checker.Scope as declared

-- the struct of the code
abbrev pub Scope : Type 0
Scope = declared.Scope

-- a column's partner by the keys, or the column itself
abbrev pub swap : List Pair → Name → Name
swap on x = or_self x (partner on x)

-- sc has the fields of inputs with the schemas l and r, their partners, and their sets by the join's keys
pub record Scopes (sc : Scope) (l r : List Name) (on : List Pair) : Type 0 where
  pub names : Names sc.fields (l ++ r)
  pub most : sc.fields.len ≤ max_fields
  pub to : Names sc.to (map (swap on) (l ++ r))
  pub left : Masks sc.left (l ++ r) (has l)
  pub right : Masks sc.right (l ++ r) (has r)
  pub alone : Masks sc.alone (l ++ r) (λ x. no_partner (partner on x))
  pub leftward : Masks sc.leftward (l ++ r) (λ x. has l (swap on x))
  pub rightward : Masks sc.rightward (l ++ r) (λ x. has r (swap on x))

-- a scope, and a list over it: what functions ask for
pub record Asked (s : List ℕ) (sc : Scope) (c : Conjuncts) : Type 0 where
  pub lefts : List Name
  pub rights : List Name
  pub keys : List Pair
  pub exprs : List Expr
  pub scopes : Scopes sc lefts rights keys
  pub reads : Reads s (lefts ++ rights) c exprs

-- those of which others are inferred, if the join is Inner
abbrev pub keyed : Bool → List Pair → List Expr → List Expr
keyed b on es = if_list b (keep (λ e. not (on_cols (λ x. no_partner (partner on x)) e)) es)

-- .. and those are over the left input
abbrev pub keyed_left : Bool → List Name → List Pair → List Expr → List Expr
keyed_left b l on es = keep (λ e. on_cols (λ x. has l (swap on x)) e) (keyed b on es)

-- .. over the right input and not over the left one
abbrev pub keyed_right : Bool → List Name → List Name → List Pair → List Expr → List Expr
keyed_right b l r on es =
    keep (λ e. on_cols (λ x. has r (swap on x)) e) (keep (λ e. not (on_cols (λ x. has l (swap on x)) e)) (keyed b on es))

-- σ puts a key's partner in its place, in what reads ns
abbrev pub Swapper : (Name → Expr) → List Name → List Pair → Type 0
Swapper σ ns on = (x : Name) → has ns x ≡ true → σ x ≡ swap_keys on x
