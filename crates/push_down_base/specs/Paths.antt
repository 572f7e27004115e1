-- A plan within a plan, as a way down: what holds of a plan in its own place and is kept by every step up holds of what stands at a record.
use Rattle.std.specs.Prelude.{ℕ, suc, ◌+◌, List}
use Rattle.std.proofs.Math.Option.{Option}
use Rattle.plan.specs.Syntax.{Expr, Entry, Pair, Key, AggEntry, WinEntry, Kind, Plan, filter, project, join, alias, union, distinct, sort}
use Rattle.plan.specs.Syntax.{repartition, limit, aggregate, window, Plans, pcons}
use Rattle.plan.specs.Measure.{size_e, size_p, sizes}
use Rattle.plan.specs.Trees.{entry_kids, key_kids, agg_kids, win_kids}

-- `P n p t C`: at record n of p stands t, and p is C t; `Q` the same of a run of inputs
pub record Ways (P : ℕ → Plan → Plan → (Plan → Plan) → Type 0) (Q : ℕ → Plans → Plan → (Plan → Plans) → Type 0) : Type 0 where
  pub root : (p : Plan) → P 0 p p (λ q. q)
  pub in_filter : (n : ℕ) (p t : Plan) (C : Plan → Plan) (e : Expr) → P n p t C → P (suc (size_e e) + n) (filter e p) t (λ q. filter e (C q))
  pub in_project : (n : ℕ) (p t : Plan) (C : Plan → Plan) (es : List Entry) → P n p t C
      → P (suc (sizes entry_kids es) + n) (project es p) t (λ q. project es (C q))
  pub in_left : (n : ℕ) (l t : Plan) (C : Plan → Plan) (k : Kind) (r : Plan) (on : List Pair) (f : Option Expr) → P n l t C
      → P (1 + n) (join k l r on f) t (λ q. join k (C q) r on f)
  pub in_right : (n : ℕ) (r t : Plan) (C : Plan → Plan) (k : Kind) (l : Plan) (on : List Pair) (f : Option Expr) → P n r t C
      → P (suc (size_p l) + n) (join k l r on f) t (λ q. join k l (C q) on f)
  pub in_alias : (n : ℕ) (p t : Plan) (C : Plan → Plan) (i : ℕ) → P n p t C → P (1 + n) (alias i p) t (λ q. alias i (C q))
  pub in_union : (n : ℕ) (ps : Plans) (t : Plan) (C : Plan → Plans) → Q n ps t C → P (1 + n) (union ps) t (λ q. union (C q))
  pub in_distinct : (n : ℕ) (p t : Plan) (C : Plan → Plan) → P n p t C → P (1 + n) (distinct p) t (λ q. distinct (C q))
  pub in_sort : (n : ℕ) (p t : Plan) (C : Plan → Plan) (f : Option ℕ) (ks : List Key) → P n p t C
      → P (suc (sizes key_kids ks) + n) (sort f ks p) t (λ q. sort f ks (C q))
  pub in_repartition : (n : ℕ) (p t : Plan) (C : Plan → Plan) → P n p t C → P (1 + n) (repartition p) t (λ q. repartition (C q))
  pub in_limit : (n : ℕ) (p t : Plan) (C : Plan → Plan) (i j : ℕ) → P n p t C → P (1 + n) (limit i j p) t (λ q. limit i j (C q))
  pub in_aggregate : (n : ℕ) (p t : Plan) (C : Plan → Plan) (gs : List Entry) (ags : List AggEntry) → P n p t C
      → P (suc (sizes entry_kids gs + sizes agg_kids ags) + n) (aggregate gs ags p) t (λ q. aggregate gs ags (C q))
  pub in_window : (n : ℕ) (p t : Plan) (C : Plan → Plan) (ws : List WinEntry) → P n p t C
      → P (suc (sizes win_kids ws) + n) (window ws p) t (λ q. window ws (C q))
  pub in_first : (n : ℕ) (p t : Plan) (C : Plan → Plan) (ps : Plans) → P n p t C → Q n (pcons p ps) t (λ q. pcons (C q) ps)
  pub in_later : (n : ℕ) (ps : Plans) (t : Plan) (C : Plan → Plans) (p : Plan) → Q n ps t C
      → Q (size_p p + n) (pcons p ps) t (λ q. pcons p (C q))
