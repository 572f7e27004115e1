-- Conjuncts above a plan, parted into those that stay there and those that move below it.
use Rattle.std.specs.Prelude.{◌≡◌, not, List, [], ◌∷◌, map, ℕ, ◌≤◌, length}
use Rattle.image.specs.Limits.{max_list}
use Rattle.plan.specs.Lists.{flatten, All}
use Rattle.plan.specs.Syntax.{Name, Expr, Entry, AggEntry, WinEntry, Plan, project, aggregate, window}
use Rattle.rewrite.specs.Utils.{replace_cols, split_conjunction, with_filters, is_empty}
use Rattle.rewrite.specs.PushDownFilter.{Transformed}
use Rattle.conjuncts.specs.Items.{Conjuncts, Lists}
use Rattle.writing.specs.Maps.{map_of}
use Rattle.push_down_base.specs.Predicates.{Predicate}
use Rattle.push_down_base.specs.Arms.{Placed, Rests, Takes}
use Rattle.push_down_arms.specs.declared.push_some.Divided as declared

-- the struct of the code
abbrev pub Divided : Type 0
Divided = declared.Divided

-- none of a list is an And
abbrev pub Singles : List Expr → Type 0
Singles es = All (λ e. split_conjunction e ≡ e ∷ []) es

-- of d the list us stays above and ds moves down: both whole, and of conjuncts
pub record Divides (s : List ℕ) (d : Divided) (us ds : List Expr) : Type 0 where
  pub kept : Lists s d.kept us
  pub kept_most : d.kept.len ≤ max_list
  pub kept_single : Singles us
  pub moved : Lists s d.moved ds
  pub moved_most : d.moved.len ≤ max_list
  pub moved_single : Singles ds

-- us above the plan f q, and ds below it, over the expressions that its entries name
abbrev pub pushed : (Plan → Plan) → Plan → List Expr → List Expr → Transformed
pushed f q us ds =
    record { plan = with_filters us (f (with_filters (map (replace_cols (map_of (f q))) ds) q)); transformed = not (is_empty ds) }

-- some conjuncts are divided over some plan with one input
pub record Dividing (s : List ℕ) (x : ℕ) (d : Divided) : Type 0 where
  pub above : Plan → Plan
  pub plan : Plan
  pub stay : List Expr
  pub move : List Expr
  pub placed : Placed s x (above plan)
  pub takes : Takes s x above plan
  pub divides : Divides s d stay move

-- ---- counting

-- how many conjuncts a list has, once its columns are replaced
abbrev pub parts : (Name → Expr) → List Expr → ℕ
parts σ es = length (flatten (λ e. split_conjunction (replace_cols σ e)) es)

-- the list c has k items, or `too_many` where k is more
pub record Counts (s : List ℕ) (c : Conjuncts) (k : ℕ) : Type 0 where
  pub exprs : List Expr
  pub lists : Lists s c exprs
  pub count : length exprs ≡ k

-- ---- what the arms ask for

-- some predicate rests on a Projection
pub record OverProjection (s : List ℕ) (x : ℕ) (p : Predicate) : Type 0 where
  pub expr : Expr
  pub entries : List Entry
  pub plan : Plan
  pub rests : Rests s x p expr (project entries plan)

-- .. on an Aggregate
pub record OverAggregate (s : List ℕ) (x : ℕ) (p : Predicate) : Type 0 where
  pub expr : Expr
  pub groups : List Entry
  pub entries : List AggEntry
  pub plan : Plan
  pub rests : Rests s x p expr (aggregate groups entries plan)

-- .. on a Window
pub record OverWindow (s : List ℕ) (x : ℕ) (p : Predicate) : Type 0 where
  pub expr : Expr
  pub entries : List WinEntry
  pub plan : Plan
  pub rests : Rests s x p expr (window entries plan)
