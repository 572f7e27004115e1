-- The plan at a record, step by step: the ways from a plan to its inputs. What is to be shown of `focus` is shown of each way.
--     focus_within    the plan that `focus` finds is reached by such steps
-- Assumes nothing.
use mathlib.Core.Path.{◌≡◌, refl, subst}
use mathlib.Core.Bool.{Bool, true, false}
use mathlib.Core.List.{List}
use mathlib.Core.Option as O
use mathlib.Core.Option.{Option, some}
use Prim.Native.Nat.{ℕ, suc, ◌+◌, ◌-◌}
use native.Mathlib.Omega.{arith}
use lib.Dec.{eqb, leb}
use borrow.Author.Tests.{eqb-true, eqb-false, leb-true}
use Rattle.plan.specs.Lists.{choose}
use Rattle.plan.specs.Syntax.{Expr, Entry, Pair, Key, AggEntry, WinEntry, Kind, Plan, scan, filter, project, join, alias, union, distinct}
use Rattle.plan.specs.Syntax.{sort, repartition, limit, aggregate, window, Plans, pnil, pcons}
use Rattle.plan.specs.Trees.{entry_kids, key_kids, agg_kids, win_kids}
use Rattle.plan.specs.Measure.{size_e, size_p, sizes}
use Rattle.rewrite.specs.RewriteAt.{Focus, FocusAll, here, focus_in, inside_all, first_of, later_of, own_or, behind, focus, focus_all}

-- a plan over one input, which stands behind k records
pub data Way : ℕ → (Plan → Plan) → Type 0 where
  through_filter : (e : Expr) → Way (suc (size_e e)) (filter e)
  through_project : (es : List Entry) → Way (suc (sizes entry_kids es)) (project es)
  through_left : (k : Kind) (r : Plan) (on : List Pair) (g : Option Expr) → Way 1 (λ l. join k l r on g)
  through_right : (k : Kind) (l : Plan) (on : List Pair) (g : Option Expr) → Way (suc (size_p l)) (λ r. join k l r on g)
  through_alias : (q : ℕ) → Way 1 (alias q)
  through_distinct : Way 1 distinct
  through_sort : (f : Option ℕ) (ks : List Key) → Way (suc (sizes key_kids ks)) (sort f ks)
  through_repartition : Way 1 repartition
  through_limit : (i j : ℕ) → Way 1 (limit i j)
  through_aggregate : (gs : List Entry) (ags : List AggEntry) → Way (suc (sizes entry_kids gs + sizes agg_kids ags)) (aggregate gs ags)
  through_window : (ws : List WinEntry) → Way (suc (sizes win_kids ws)) (window ws)

-- a plan within a plan, or within the inputs of a Union
pub data Place : Type 0 where
  one : Plan → Focus → Place
  all : Plans → FocusAll → Place

-- it stands at record n
pub data Within : ℕ → Place → Type 0 where
  itself : (p : Plan) → Within 0 (one p (record { plan = p; back = λ q. q }))
  below : {k m : ℕ} {f : Plan → Plan} {p : Plan} {c : Focus} → Way k f → Within m (one p c)
      → Within (k + m) (one (f p) (record { plan = c.plan; back = λ q. f (c.back q) }))
  input : {m : ℕ} {ps : Plans} {c : FocusAll} → Within m (all ps c)
      → Within (1 + m) (one (union ps) (record { plan = c.plan; back = λ q. union (c.back q) }))
  first : {m : ℕ} {p : Plan} {c : Focus} (ps : Plans) → Within m (one p c)
      → Within m (all (pcons p ps) (record { plan = c.plan; back = λ q. pcons (c.back q) ps }))
  later : {m : ℕ} {ps : Plans} {c : FocusAll} (p : Plan) → Within m (all ps c)
      → Within (size_p p + m) (all (pcons p ps) (record { plan = c.plan; back = λ q. pcons p (c.back q) }))

-- ---- what `focus` finds, or nothing

data Finds (n : ℕ) (p : Plan) : Option Focus → Type 0 where
  nowhere : Finds n p O.none
  found : {c : Focus} → Within n (one p c) → Finds n p (some c)

data FindsAll (n : ℕ) (ps : Plans) : Option FocusAll → Type 0 where
  nowhere : FindsAll n ps O.none
  found : {c : FocusAll} → Within n (all ps c) → FindsAll n ps (some c)

-- the plan itself
finds_here : (n : ℕ) (p : Plan) → n ≡ 0 → Finds n p (here p)
finds_here n p z = rw z (found (itself p))

-- in an input
finds_inside : {n m k : ℕ} {p : Plan} {o : Option Focus} (f : Plan → Plan) → Way k f → n ≡ k + m → Finds m p o → Finds n (f p) (focus_in f o)
finds_inside f w e nowhere = nowhere
finds_inside f w e (found h) = rw e (found (below w h))

-- in the inputs of a Union
finds_union : {n m : ℕ} {ps : Plans} {o : Option FocusAll} → n ≡ 1 + m → FindsAll m ps o → Finds n (union ps) (inside_all union o)
finds_union e nowhere = nowhere
finds_union e (found h) = rw e (found (input h))

finds_first : {n : ℕ} {p : Plan} (ps : Plans) {o : Option Focus} → Finds n p o → FindsAll n (pcons p ps) (first_of ps o)
finds_first ps nowhere = nowhere
finds_first ps (found h) = found (first ps h)

finds_later : {n m : ℕ} (p : Plan) {ps : Plans} {o : Option FocusAll} → n ≡ size_p p + m → FindsAll m ps o → FindsAll n (pcons p ps) (later_of p o)
finds_later p e nowhere = nowhere
finds_later p e (found h) = rw e (found (later p h))

-- either of two
finds_either : (b : Bool) {n : ℕ} {p : Plan} {x y : Option Focus} → (b ≡ true → Finds n p x) → (b ≡ false → Finds n p y) → Finds n p (choose b x y)
unfolding choose
finds_either true h k = h refl
finds_either false h k = k refl

finds_either_all : (b : Bool) {n : ℕ} {ps : Plans} {x y : Option FocusAll} → (b ≡ true → FindsAll n ps x) → (b ≡ false → FindsAll n ps y)
    → FindsAll n ps (choose b x y)
unfolding choose
finds_either_all true h k = h refl
finds_either_all false h k = k refl

-- the record is the plan's own, or one below
finds_own : (n : ℕ) (p : Plan) {o : Option Focus} → ((n ≡ 0 → ⊥) → Finds n p o) → Finds n p (own_or n p o)
finds_own n p h = finds_either (eqb n 0) (λ e. finds_here n p (eqb-true n 0 e)) (λ e. h (eqb-false n 0 e))

-- an input behind k records
finds_behind : {n k : ℕ} {p : Plan} {o : Option Focus} (f : Plan → Plan) → Way k f → Finds (n - k) p o → Finds n (f p) (behind k n f o)
finds_behind {n} {k} f w h = finds_either (leb k n) (λ e. finds_inside f w (omega (arith, leb-true k n e)) h) (λ e. nowhere)

mutual
  unfolding focus

  finds : (p : Plan) (n : ℕ) → Finds n p (focus n p)
  finds (scan t fs es) n = finds_own n _ (λ nz. nowhere)
  finds (filter e p) n = finds_own n _ (λ nz. finds_behind (filter e) (through_filter e) (finds p _))
  finds (project es p) n = finds_own n _ (λ nz. finds_behind (project es) (through_project es) (finds p _))
  finds (join k l r on g) n =
      finds_own n _ (λ nz. finds_either (leb (suc (size_p l)) n)
      (λ e. finds_inside (λ q. join k l q on g) (through_right k l on g) (omega (arith, leb-true (suc (size_p l)) n e)) (finds r _))
      (λ e. finds_inside (λ q. join k q r on g) (through_left k r on g) (omega arith) (finds l _)))
  finds (alias q p) n = finds_own n _ (λ nz. finds_inside (alias q) (through_alias q) (omega arith) (finds p _))
  finds (union ps) n = finds_own n _ (λ nz. finds_union (omega arith) (finds_all ps (n - 1)))
  finds (distinct p) n = finds_own n _ (λ nz. finds_inside distinct through_distinct (omega arith) (finds p _))
  finds (sort f ks p) n = finds_own n _ (λ nz. finds_behind (sort f ks) (through_sort f ks) (finds p _))
  finds (repartition p) n = finds_own n _ (λ nz. finds_inside repartition through_repartition (omega arith) (finds p _))
  finds (limit i j p) n = finds_own n _ (λ nz. finds_inside (limit i j) (through_limit i j) (omega arith) (finds p _))
  finds (aggregate gs ags p) n = finds_own n _ (λ nz. finds_behind (aggregate gs ags) (through_aggregate gs ags) (finds p _))
  finds (window ws p) n = finds_own n _ (λ nz. finds_behind (window ws) (through_window ws) (finds p _))

  finds_all : (ps : Plans) (n : ℕ) → FindsAll n ps (focus_all n ps)
  finds_all pnil n = nowhere
  finds_all (pcons p ps) n =
      finds_either_all (leb (size_p p) n) (λ e. finds_later p (omega (arith, leb-true (size_p p) n e)) (finds_all ps _))
      (λ e. finds_first ps (finds p n))

-- The plan that `focus` finds is reached by steps.
pub focus_within : (p : Plan) (n : ℕ) (c : Focus) → focus n p ≡ some c → Within n (one p c)
focus_within p n c e = take_out (subst (Finds n p) e (finds p n))
  where
    take_out : Finds n p (some c) → Within n (one p c)
    take_out (found h) = h
