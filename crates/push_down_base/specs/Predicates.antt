-- What the code's predicates stand for.
use Rattle.std.specs.Prelude.{◌≡◌, None, List, ℕ, ◌≤◌, ◌<◌}
use Rattle.std.proofs.Math.Option.{Option, none, some}
use Rattle.image.specs.Limits.{max_list}
use Rattle.plan.specs.Syntax.{Name, Expr}
use Rattle.conjuncts.specs.Items.{Conjuncts, Known}
use Rattle.image.specs.Subtrees.{Subtree}
use Rattle.writing.specs.Maps.{MapsTo}
use Rattle.writing.specs.Pushed as W
use Rattle.push_down_base.specs.declared.predicates.Predicate as declared

-- the struct of the code
abbrev pub Predicate : Type 0
Predicate = declared.Predicate

-- what is written for a predicate, where columns are replaced by σ: nothing, or an expression
pub data Perhaps (s : List ℕ) (σ : Name → Expr) (p : Predicate) : Option Expr → Type 0 where
  gone : p.written ≡ None → p.list.len ≡ 0 → Perhaps s σ p none
  left : {e : Expr} → W.Predicate s σ p.written p.list e → (p.written ≡ None → 0 < p.list.len) → Perhaps s σ p (some e)

-- something or nothing is written for a predicate by way of the map, and its list is whole
pub record Writable (s : List ℕ) (map : Subtree) (p : Predicate) : Type 0 where
  pub mapping : Name → Expr
  pub maps : MapsTo map mapping
  pub expr : Option Expr
  pub perhaps : Perhaps s mapping p expr
  pub most : p.list.len ≤ max_list

-- c is a list of items of some image
pub record Listing (c : Conjuncts) : Type 0 where
  pub image : List ℕ
  pub known : Known image c
