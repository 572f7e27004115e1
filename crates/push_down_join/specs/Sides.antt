-- What is written for the items of a list that moves to one side of a join: as `Pushed` says, or the clause out of an OR.
use Rattle.std.specs.Prelude.{◌≡◌, Bool, true, List, ℕ, ◌*◌, ◌-◌, ◌≤◌, ◌<◌, length, get_or}
use Rattle.std.proofs.Math.Option.{some}
use Rattle.image.specs.Limits.{max_list}
use Rattle.plan.specs.Columns.{on_cols}
use Rattle.plan.specs.Schema.{has}
use Rattle.plan.specs.Syntax.{Name, Expr}
use Rattle.conjuncts.specs.Items.{Conjuncts, listed, Holds, Item, clause_by, replaced_by}
use Rattle.push_down_join.specs.Clauses.{or_clause}
use Rattle.utils.specs.Fields.{Fields, Names}
use Rattle.utils.specs.Masks.{Masks}
use Rattle.image.specs.declared.trees.Stretch.{Stretch}
use Rattle.writing.specs.Maps.{MapsTo}
use Rattle.writing.specs.Pushed.{Pushed, Each}

-- e is the clause of the item n, which reads ns, for the side whose columns pass t
pub record ClauseOf (s : List ℕ) (ns : List Name) (t : Name → Bool) (n : ℕ) (e : Expr) : Type 0 where
  pub from : Expr
  pub item : Item s n from
  pub reads : on_cols (has ns) from ≡ true
  pub is : or_clause t from ≡ some e

-- e is written for the number n
pub record Sided (s : List ℕ) (σ : Name → Expr) (ns : List Name) (t : Name → Bool) (n : ℕ) (e : Expr) : Type 0 where
  pub written : n < clause_by → Pushed s σ n e
  pub clause : clause_by ≤ n → ClauseOf s ns t (n - clause_by) e
  pub small : n < 2 * clause_by

-- es is written for the list c
pub record Sides (s : List ℕ) (σ : Name → Expr) (ns : List Name) (t : Name → Bool) (c : Conjuncts) (es : List Expr) : Type 0 where
  pub numbers : List ℕ
  pub holds : Holds c numbers
  pub items : Each (Sided s σ ns t) numbers es

-- c is whole, and its items are plain
pub record Smalls (c : Conjuncts) : Type 0 where
  pub most : c.len ≤ max_list
  pub room : length (listed c) ≡ c.len
  pub each : (i : ℕ) → i < c.len → get_or (listed c) i 0 < replaced_by

-- something is written for the number n
pub record OneSided (s : List ℕ) (n : ℕ) : Type 0 where
  pub mapping : Name → Expr
  pub names : List Name
  pub test : Name → Bool
  pub expr : Expr
  pub sided : Sided s mapping names test n expr

-- something is written for the list c, which is whole
pub record SomeSided (s : List ℕ) (c : Conjuncts) : Type 0 where
  pub mapping : Name → Expr
  pub names : List Name
  pub test : Name → Bool
  pub exprs : List Expr
  pub sides : Sides s mapping names test c exprs
  pub most : c.len ≤ max_list

-- the map is σ, and `side` has those of the names ns, which `fields` holds, that pass t
pub record Side {M : ℕ} (map : Stretch M) (fields : Fields) (side : ℕ) (σ : Name → Expr) (ns : List Name) (t : Name → Bool) : Type 0 where
  pub maps : MapsTo map σ
  pub names : Names fields ns
  pub masks : Masks side ns t
