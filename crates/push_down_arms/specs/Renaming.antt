-- A predicate that is written over another plan, its columns renamed by place.
use Rattle.std.specs.Prelude.{◌≡◌, List, ℕ, ◌≤◌, length}
use Rattle.std.proofs.Math.Option.{some}
use Rattle.image.specs.Limits.{max_fields, max_list}
use Rattle.plan.specs.Syntax.{Name, Expr, Plan}
use Rattle.plan.specs.Schema.{schema}
use Rattle.rewrite.specs.Utils.{replace_cols}
use Rattle.conjuncts.specs.Standing.{StandingP}
use Rattle.utils.specs.Fields.{Fields, Names}
use Rattle.push_down_base.specs.Predicates.{Predicate, Perhaps}

-- p is e over the names ns, which `from` holds, its columns to be replaced; q stands at record y and has as many fields
pub record Renamed (s : List ℕ) (from : Fields) (p : Predicate) (y : ℕ) (e : Expr) (q : Plan) (ns : List Name) : Type 0 where
  pub standing : StandingP s y q
  pub names : Names from ns
  pub wide : length ns ≡ length (schema q)
  pub few : length ns ≤ max_fields
  pub most : p.list.len ≤ max_list
  pub changed : (σ : Name → Expr) → Perhaps s σ p (some (replace_cols σ e))

pub record Renaming (s : List ℕ) (from : Fields) (p : Predicate) (y : ℕ) : Type 0 where
  pub expr : Expr
  pub plan : Plan
  pub over : List Name
  pub renamed : Renamed s from p y expr plan over
