-- A plan within a plan. `Holed n level C`: whatever plan is put into `C` stands there at record `n`, below `level` plans, and the whole is at
-- its records as it is. The ways into every kind of plan are such contexts, and so is one within another.
use Prim.Native.Nat.{ℕ, suc, ◌+◌, ◌-◌, ◌≤◌, ◌<◌}
use native.Mathlib.Omega.{arith}
use mathlib.Core.Path.{◌≡◌, refl, ap, ◌∙◌}
use mathlib.Core.List.{List}
use mathlib.Core.Option.{Option, none, some}
use lib.Dec.{eqb, leb}
use borrow.Author.Tests.{le-leb, lt-leb, ne_eqb}
use Rattle.plan.specs.Lists.{choose}
use Rattle.plan.specs.Syntax.{Expr, Entry, Pair, Key, AggEntry, WinEntry, Kind, Plan, scan, filter, project, join, alias, union, distinct}
use Rattle.plan.specs.Syntax.{sort, repartition, limit, aggregate, window, Plans, pcons}
use Rattle.plan.specs.Measure.{size_e, size_p, depth_p, sizes}
use Rattle.plan.proofs.Measure.{size_ps, depth_ps, size_filter, size_project, size_join, size_alias, size_union, size_distinct, size_sort}
use Rattle.plan.proofs.Measure.{size_repartition, size_limit, size_aggregate, size_window, size_pcons, one_record, deep_filter}
use Rattle.plan.proofs.Measure.{deep_project, deep_left, deep_right, deep_alias, deep_union, deep_distinct, deep_sort, deep_repartition}
use Rattle.plan.proofs.Measure.{deep_limit, deep_aggregate, deep_window, deep_first, deep_later}
use Rattle.plan.specs.Trees.{entry_kids, key_kids, agg_kids, win_kids}
use Rattle.rewrite.specs.RewriteAt.{Focus, FocusAll, here, focus_in, inside_all, first_of, later_of, focus, focus_all}

pub record Holed (n level : ℕ) (C : Plan → Plan) : Type 0 where
  pub found : (m : ℕ) (t : Plan) → m < size_p t → focus (n + m) (C t) ≡ focus_in C (focus m t)
  pub room : (t : Plan) → n + size_p t ≤ size_p (C t)
  pub deep : (t : Plan) → level + depth_p t ≤ depth_p (C t)

-- the same for a run of inputs of a Union
pub record HoledAll (n level : ℕ) (C : Plans → Plan) : Type 0 where
  pub found : (m : ℕ) (ts : Plans) → m < size_ps ts → focus (n + m) (C ts) ≡ inside_all C (focus_all m ts)
  pub room : (ts : Plans) → n + size_ps ts ≤ size_p (C ts)
  pub deep : (ts : Plans) → level + depth_ps ts ≤ depth_p (C ts)

-- ---- a plan stands at its own record 0

pub focus_start : (t : Plan) → focus 0 t ≡ here t
unfolding focus choose
focus_start (scan t fs es) = refl
focus_start (filter e p) = refl
focus_start (project es p) = refl
focus_start (join k l r on f) = refl
focus_start (alias q p) = refl
focus_start (union ps) = refl
focus_start (distinct p) = refl
focus_start (sort f ks p) = refl
focus_start (repartition p) = refl
focus_start (limit n k p) = refl
focus_start (aggregate gs ags p) = refl
focus_start (window ws p) = refl

pub found_here : {n level : ℕ} {C : Plan → Plan} → Holed n level C → (t : Plan) → focus n (C t) ≡ some (record { plan = t; back = C })
found_here {n} {level} {C} h t =
    let e : n ≡ n + 0 = omega arith in
    ap (λ i. focus i (C t)) e ∙ h.found 0 t (one_record t) ∙ ap (focus_in C) (focus_start t)

-- ---- the whole, and one within another

inside_self : (o : Option Focus) → o ≡ focus_in (λ q. q) o
inside_self none = refl
inside_self (some c) = refl

inside_twice : (f g : Plan → Plan) (o : Option Focus) → focus_in f (focus_in g o) ≡ focus_in (λ q. f (g q)) o
inside_twice f g none = refl
inside_twice f g (some c) = refl

pub whole : Holed 0 0 (λ q. q)
whole = record { found = λ m t h. at_zero m t; room = λ t. omega arith; deep = λ t. omega arith }
  where
    at_zero : (m : ℕ) (t : Plan) → focus (0 + m) t ≡ focus_in (λ q. q) (focus m t)
    at_zero m t = let e : 0 + m ≡ m = omega arith in ap (λ i. focus i t) e ∙ inside_self (focus m t)

module _ {n k a b : ℕ} (i l : ℕ) (C D : Plan → Plan) (h : Holed n a C) (g : Holed k b D) (e : i ≡ n + k) (f : l ≡ a + b) where
  within_found : (m : ℕ) (t : Plan) → m < size_p t → focus (i + m) (C (D t)) ≡ focus_in (λ q. C (D q)) (focus m t)
  within_found m t s =
      let j : i + m ≡ n + (k + m) = omega arith in
      ap (λ x. focus x (C (D t))) j
      ∙ h.found (k + m) (D t) (omega (arith, g.room t))
      ∙ ap (focus_in C) (g.found m t s)
      ∙ inside_twice C D (focus m t)

  pub within : Holed i l (λ q. C (D q))
  within = record { found = within_found; room = λ t. omega (arith, h.room (D t), g.room t); deep = λ t. omega (arith, h.deep (D t), g.deep t) }

-- ---- the way into each kind of plan: behind `k` records of the plan's own

-- a plan's input: none of the records before it is found, and it is found at `k`
after_parts : (k m : ℕ) (p : Plan) (f : Plan → Plan) (o : ℕ → Option Focus)
    → choose (eqb (suc k + m) 0) (here p) (choose (leb (suc k) (suc k + m)) (focus_in f (o (suc k + m - suc k))) none) ≡ focus_in f (o m)
unfolding choose
after_parts k m p f o =
    let e : suc k + m - suc k ≡ m = omega arith in
    rw (ne_eqb (suc k + m) 0 (λ z. omega arith), le-leb (suc k) (suc k + m) (omega arith), e)

right_behind : (m : ℕ) (p : Plan) (o : ℕ → Option Focus) → choose (eqb (1 + m) 0) (here p) (o (1 + m - 1)) ≡ o m
unfolding choose
right_behind m p o = let e : 1 + m - 1 ≡ m = omega arith in rw (ne_eqb (1 + m) 0 (λ z. omega arith), e)

pub in_filter : (e : Expr) → Holed (suc (size_e e)) 1 (filter e)
unfolding focus
in_filter e =
    record {
      found = λ m t h. after_parts (size_e e) m (filter e t) (filter e) (λ i. focus i t);
      room = λ t. omega (arith, size_filter e t);
      deep = λ t. deep_filter e t;
    }

pub in_project : (es : List Entry) → Holed (suc (sizes entry_kids es)) 1 (project es)
unfolding focus
in_project es =
    record {
      found = λ m t h. after_parts (sizes entry_kids es) m (project es t) (project es) (λ i. focus i t);
      room = λ t. omega (arith, size_project es t);
      deep = λ t. deep_project es t;
    }

pub in_alias : (q : ℕ) → Holed 1 1 (alias q)
unfolding focus
in_alias q =
    record {
      found = λ m t h. right_behind m (alias q t) (λ i. focus_in (alias q) (focus i t));
      room = λ t. omega (arith, size_alias q t);
      deep = λ t. deep_alias q t;
    }

pub in_distinct : Holed 1 1 distinct
unfolding focus
in_distinct =
    record {
      found = λ m t h. right_behind m (distinct t) (λ i. focus_in distinct (focus i t));
      room = λ t. omega (arith, size_distinct t);
      deep = λ t. deep_distinct t;
    }

pub in_sort : (f : Option ℕ) (ks : List Key) → Holed (suc (sizes key_kids ks)) 1 (sort f ks)
unfolding focus
in_sort f ks =
    record {
      found = λ m t h. after_parts (sizes key_kids ks) m (sort f ks t) (sort f ks) (λ i. focus i t);
      room = λ t. omega (arith, size_sort f ks t);
      deep = λ t. deep_sort f ks t;
    }

pub in_repartition : Holed 1 1 repartition
unfolding focus
in_repartition =
    record {
      found = λ m t h. right_behind m (repartition t) (λ i. focus_in repartition (focus i t));
      room = λ t. omega (arith, size_repartition t);
      deep = λ t. deep_repartition t;
    }

pub in_limit : (n k : ℕ) → Holed 1 1 (limit n k)
unfolding focus
in_limit n k =
    record {
      found = λ m t h. right_behind m (limit n k t) (λ i. focus_in (limit n k) (focus i t));
      room = λ t. omega (arith, size_limit n k t);
      deep = λ t. deep_limit n k t;
    }

pub in_aggregate : (gs : List Entry) (ags : List AggEntry) → Holed (suc (sizes entry_kids gs + sizes agg_kids ags)) 1 (aggregate gs ags)
unfolding focus
in_aggregate gs ags =
    record {
      found = λ m t h. after_parts (sizes entry_kids gs + sizes agg_kids ags) m (aggregate gs ags t) (aggregate gs ags) (λ i. focus i t);
      room = λ t. omega (arith, size_aggregate gs ags t);
      deep = λ t. deep_aggregate gs ags t;
    }

pub in_window : (ws : List WinEntry) → Holed (suc (sizes win_kids ws)) 1 (window ws)
unfolding focus
in_window ws =
    record {
      found = λ m t h. after_parts (sizes win_kids ws) m (window ws t) (window ws) (λ i. focus i t);
      room = λ t. omega (arith, size_window ws t);
      deep = λ t. deep_window ws t;
    }

-- ---- the inputs of a Join

before_right : (k m : ℕ) (p : Plan) (x : Option Focus) (o : ℕ → Option Focus) → m < k
    → choose (eqb (1 + m) 0) (here p) (choose (leb (suc k) (1 + m)) x (o (1 + m - 1))) ≡ o m
unfolding choose
before_right k m p x o h = rw (lt-leb (suc k) (1 + m) (omega arith)) (right_behind m p o)

from_right : (k m : ℕ) (p : Plan) (o : ℕ → Option Focus) (x : Option Focus)
    → choose (eqb (suc k + m) 0) (here p) (choose (leb (suc k) (suc k + m)) (o (suc k + m - suc k)) x) ≡ o m
unfolding choose
from_right k m p o x =
    let e : suc k + m - suc k ≡ m = omega arith in
    rw (ne_eqb (suc k + m) 0 (λ z. omega arith), le-leb (suc k) (suc k + m) (omega arith), e)

pub in_left : (k : Kind) (r : Plan) (on : List Pair) (g : Option Expr) → Holed 1 1 (λ l. join k l r on g)
unfolding focus
in_left k r on g =
    record {
      found = λ m t h. before_right (size_p t) m (join k t r on g) _ (λ i. focus_in (λ q. join k q r on g) (focus i t)) h;
      room = λ t. omega (arith, size_join k t r on g);
      deep = λ t. deep_left k t r on g;
    }

pub in_right : (k : Kind) (l : Plan) (on : List Pair) (g : Option Expr) → Holed (suc (size_p l)) 1 (λ r. join k l r on g)
unfolding focus
in_right k l on g =
    record {
      found = λ m t h. from_right (size_p l) m (join k l t on g) (λ i. focus_in (λ q. join k l q on g) (focus i t)) _;
      room = λ t. omega (arith, size_join k l t on g);
      deep = λ t. deep_right k l t on g;
    }

-- ---- the inputs of a Union: the first of a run, and the run behind it

all_inside : (C : Plan → Plan) (o : Option FocusAll) → focus_in C (inside_all union o) ≡ inside_all (λ ps. C (union ps)) o
all_inside C none = refl
all_inside C (some c) = refl

first_inside : (C : Plans → Plan) (ps : Plans) (o : Option Focus) → inside_all C (first_of ps o) ≡ focus_in (λ q. C (pcons q ps)) o
first_inside C ps none = refl
first_inside C ps (some c) = refl

later_inside : (C : Plans → Plan) (p : Plan) (o : Option FocusAll) → inside_all C (later_of p o) ≡ inside_all (λ ps. C (pcons p ps)) o
later_inside C p none = refl
later_inside C p (some c) = refl

module _ {n a : ℕ} (i l : ℕ) (C : Plan → Plan) (h : Holed n a C) (e : i ≡ n + 1) (f : l ≡ a + 1) where
  union_found : (m : ℕ) (ts : Plans) → m < size_ps ts → focus (i + m) (C (union ts)) ≡ inside_all (λ ps. C (union ps)) (focus_all m ts)
  unfolding focus
  union_found m ts s =
      let j : i + m ≡ n + (1 + m) = omega arith in
      ap (λ x. focus x (C (union ts))) j
      ∙ h.found (1 + m) (union ts) (omega (arith, size_union ts))
      ∙ ap (focus_in C) (right_behind m (union ts) (λ i. inside_all union (focus_all i ts)))
      ∙ all_inside C (focus_all m ts)

  pub in_union : HoledAll i l (λ ps. C (union ps))
  in_union =
      record {
        found = union_found;
        room = λ ts. omega (arith, h.room (union ts), size_union ts);
        deep = λ ts. omega (arith, h.deep (union ts), deep_union ts);
      }

focus_first : (m : ℕ) (t : Plan) (ps : Plans) → m < size_p t → focus_all m (pcons t ps) ≡ first_of ps (focus m t)
unfolding focus choose
focus_first m t ps h = rw (lt-leb (size_p t) m h)

focus_later : (m : ℕ) (p : Plan) (ts : Plans) → focus_all (size_p p + m) (pcons p ts) ≡ later_of p (focus_all m ts)
unfolding focus choose
focus_later m p ts = let d : size_p p + m - size_p p ≡ m = omega arith in rw (le-leb (size_p p) (size_p p + m) (omega arith), d)

module _ {n a : ℕ} (C : Plans → Plan) (h : HoledAll n a C) where
  first_found : (ps : Plans) (m : ℕ) (t : Plan) → m < size_p t → focus (n + m) (C (pcons t ps)) ≡ focus_in (λ q. C (pcons q ps)) (focus m t)
  first_found ps m t s =
      h.found m (pcons t ps) (omega (arith, size_pcons t ps))
      ∙ ap (inside_all C) (focus_first m t ps s)
      ∙ first_inside C ps (focus m t)

  pub in_first : (ps : Plans) → Holed n a (λ q. C (pcons q ps))
  in_first ps =
      record {
        found = first_found ps;
        room = λ t. omega (arith, h.room (pcons t ps), size_pcons t ps);
        deep = λ t. omega (arith, h.deep (pcons t ps), deep_first t ps);
      }

  later_found : (p : Plan) (m : ℕ) (ts : Plans) → m < size_ps ts
      → focus (n + size_p p + m) (C (pcons p ts)) ≡ inside_all (λ ps. C (pcons p ps)) (focus_all m ts)
  later_found p m ts s =
      let j : n + size_p p + m ≡ n + (size_p p + m) = omega arith in
      ap (λ x. focus x (C (pcons p ts))) j
      ∙ h.found (size_p p + m) (pcons p ts) (omega (arith, size_pcons p ts))
      ∙ ap (inside_all C) (focus_later m p ts)
      ∙ later_inside C p (focus_all m ts)

  pub in_later : (p : Plan) → HoledAll (n + size_p p) a (λ ps. C (pcons p ps))
  in_later p =
      record {
        found = later_found p;
        room = λ ts. omega (arith, h.room (pcons p ts), size_pcons p ts);
        deep = λ ts. omega (arith, h.deep (pcons p ts), deep_later p ts);
      }
