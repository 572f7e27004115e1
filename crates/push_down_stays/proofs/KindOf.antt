-- What kind of plan stands at a record: by the number in its first word.
use Prim.Native.Nat.{ℕ, ◌*◌}
use native.Mathlib.Omega.{arith}
use mathlib.Core.Path.{◌≡◌, ap}
use mathlib.Core.List.{List}
use mathlib.Core.Option.{Option}
use lib.ListN.{drop}
use Rattle.image.specs.Tree.{Label, label_at}
use Rattle.plan.specs.Syntax.{Expr, Field, Entry, AggEntry, WinEntry, Kind, Pair, Plan, Plans}
use Rattle.plan.specs.Syntax.{scan, filter, project, join, alias, union, distinct, sort, repartition, limit, aggregate, window}
use Rattle.plan.specs.Trees.{label_p}
use Rattle.conjuncts.specs.Standing.{StandingP}

-- the number at a record is that of the plan that stands there
pub kind_there : {s : List ℕ} {x : ℕ} {q : Plan} → StandingP s x q → (label_at (drop (32 * x) s)).kind ≡ (label_p q).kind
kind_there h = ap (λ (l : Label). l.kind) h.here.head.label

-- a plan with the number of a kind is of that kind
module _ (P : Plan → Type 0) where
  pub when_scan : ((t : ℕ) (fs : List Field) (es : List Expr) → P (scan t fs es)) → (q : Plan) → (label_p q).kind ≡ 32 → P q
  unfolding label_p
  when_scan f' (scan t fs es) h = f' t fs es
  when_scan f' (filter e p) h = absurd (omega arith)
  when_scan f' (project es p) h = absurd (omega arith)
  when_scan f' (join k l r on f) h = absurd (omega arith)
  when_scan f' (alias i p) h = absurd (omega arith)
  when_scan f' (union ps) h = absurd (omega arith)
  when_scan f' (distinct p) h = absurd (omega arith)
  when_scan f' (sort f ks p) h = absurd (omega arith)
  when_scan f' (repartition p) h = absurd (omega arith)
  when_scan f' (limit n k p) h = absurd (omega arith)
  when_scan f' (aggregate gs ags p) h = absurd (omega arith)
  when_scan f' (window ws p) h = absurd (omega arith)

  pub when_filter : ((e : Expr) (p : Plan) → P (filter e p)) → (q : Plan) → (label_p q).kind ≡ 33 → P q
  unfolding label_p
  when_filter f' (scan t fs es) h = absurd (omega arith)
  when_filter f' (filter e p) h = f' e p
  when_filter f' (project es p) h = absurd (omega arith)
  when_filter f' (join k l r on f) h = absurd (omega arith)
  when_filter f' (alias i p) h = absurd (omega arith)
  when_filter f' (union ps) h = absurd (omega arith)
  when_filter f' (distinct p) h = absurd (omega arith)
  when_filter f' (sort f ks p) h = absurd (omega arith)
  when_filter f' (repartition p) h = absurd (omega arith)
  when_filter f' (limit n k p) h = absurd (omega arith)
  when_filter f' (aggregate gs ags p) h = absurd (omega arith)
  when_filter f' (window ws p) h = absurd (omega arith)

  pub when_project : ((es : List Entry) (p : Plan) → P (project es p)) → (q : Plan) → (label_p q).kind ≡ 34 → P q
  unfolding label_p
  when_project f' (scan t fs es) h = absurd (omega arith)
  when_project f' (filter e p) h = absurd (omega arith)
  when_project f' (project es p) h = f' es p
  when_project f' (join k l r on f) h = absurd (omega arith)
  when_project f' (alias i p) h = absurd (omega arith)
  when_project f' (union ps) h = absurd (omega arith)
  when_project f' (distinct p) h = absurd (omega arith)
  when_project f' (sort f ks p) h = absurd (omega arith)
  when_project f' (repartition p) h = absurd (omega arith)
  when_project f' (limit n k p) h = absurd (omega arith)
  when_project f' (aggregate gs ags p) h = absurd (omega arith)
  when_project f' (window ws p) h = absurd (omega arith)

  pub when_join : ((k : Kind) (l r : Plan) (on : List Pair) (f : Option Expr) → P (join k l r on f)) → (q : Plan) → (label_p q).kind ≡ 35 → P q
  unfolding label_p
  when_join f' (scan t fs es) h = absurd (omega arith)
  when_join f' (filter e p) h = absurd (omega arith)
  when_join f' (project es p) h = absurd (omega arith)
  when_join f' (join k l r on f) h = f' k l r on f
  when_join f' (alias i p) h = absurd (omega arith)
  when_join f' (union ps) h = absurd (omega arith)
  when_join f' (distinct p) h = absurd (omega arith)
  when_join f' (sort f ks p) h = absurd (omega arith)
  when_join f' (repartition p) h = absurd (omega arith)
  when_join f' (limit n k p) h = absurd (omega arith)
  when_join f' (aggregate gs ags p) h = absurd (omega arith)
  when_join f' (window ws p) h = absurd (omega arith)

  pub when_alias : ((i : ℕ) (p : Plan) → P (alias i p)) → (q : Plan) → (label_p q).kind ≡ 36 → P q
  unfolding label_p
  when_alias f' (scan t fs es) h = absurd (omega arith)
  when_alias f' (filter e p) h = absurd (omega arith)
  when_alias f' (project es p) h = absurd (omega arith)
  when_alias f' (join k l r on f) h = absurd (omega arith)
  when_alias f' (alias i p) h = f' i p
  when_alias f' (union ps) h = absurd (omega arith)
  when_alias f' (distinct p) h = absurd (omega arith)
  when_alias f' (sort f ks p) h = absurd (omega arith)
  when_alias f' (repartition p) h = absurd (omega arith)
  when_alias f' (limit n k p) h = absurd (omega arith)
  when_alias f' (aggregate gs ags p) h = absurd (omega arith)
  when_alias f' (window ws p) h = absurd (omega arith)

  pub when_union : ((ps : Plans) → P (union ps)) → (q : Plan) → (label_p q).kind ≡ 37 → P q
  unfolding label_p
  when_union f' (scan t fs es) h = absurd (omega arith)
  when_union f' (filter e p) h = absurd (omega arith)
  when_union f' (project es p) h = absurd (omega arith)
  when_union f' (join k l r on f) h = absurd (omega arith)
  when_union f' (alias i p) h = absurd (omega arith)
  when_union f' (union ps) h = f' ps
  when_union f' (distinct p) h = absurd (omega arith)
  when_union f' (sort f ks p) h = absurd (omega arith)
  when_union f' (repartition p) h = absurd (omega arith)
  when_union f' (limit n k p) h = absurd (omega arith)
  when_union f' (aggregate gs ags p) h = absurd (omega arith)
  when_union f' (window ws p) h = absurd (omega arith)

  pub when_aggregate : ((gs : List Entry) (ags : List AggEntry) (p : Plan) → P (aggregate gs ags p)) → (q : Plan) → (label_p q).kind ≡ 42 → P q
  unfolding label_p
  when_aggregate f' (scan t fs es) h = absurd (omega arith)
  when_aggregate f' (filter e p) h = absurd (omega arith)
  when_aggregate f' (project es p) h = absurd (omega arith)
  when_aggregate f' (join k l r on f) h = absurd (omega arith)
  when_aggregate f' (alias i p) h = absurd (omega arith)
  when_aggregate f' (union ps) h = absurd (omega arith)
  when_aggregate f' (distinct p) h = absurd (omega arith)
  when_aggregate f' (sort f ks p) h = absurd (omega arith)
  when_aggregate f' (repartition p) h = absurd (omega arith)
  when_aggregate f' (limit n k p) h = absurd (omega arith)
  when_aggregate f' (aggregate gs ags p) h = f' gs ags p
  when_aggregate f' (window ws p) h = absurd (omega arith)

  pub when_window : ((ws : List WinEntry) (p : Plan) → P (window ws p)) → (q : Plan) → (label_p q).kind ≡ 43 → P q
  unfolding label_p
  when_window f' (scan t fs es) h = absurd (omega arith)
  when_window f' (filter e p) h = absurd (omega arith)
  when_window f' (project es p) h = absurd (omega arith)
  when_window f' (join k l r on f) h = absurd (omega arith)
  when_window f' (alias i p) h = absurd (omega arith)
  when_window f' (union ps) h = absurd (omega arith)
  when_window f' (distinct p) h = absurd (omega arith)
  when_window f' (sort f ks p) h = absurd (omega arith)
  when_window f' (repartition p) h = absurd (omega arith)
  when_window f' (limit n k p) h = absurd (omega arith)
  when_window f' (aggregate gs ags p) h = absurd (omega arith)
  when_window f' (window ws p) h = f' ws p
