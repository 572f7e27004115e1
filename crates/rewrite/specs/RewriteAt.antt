-- The call `rewrite` on a whole plan: the rewrite at a record number, with the refusals 8, 11 and 12.
use Rattle.std.specs.Prelude.{ℕ, suc, ◌+◌, ◌*◌, ◌-◌, Bool, eqb, leb}
use Rattle.std.proofs.Math.Option.{Option, none, some}
use Rattle.plan.specs.Lists.{◌&◌, choose, all}
use Rattle.plan.specs.Syntax.{Plan, scan, filter, project, join, alias, union, distinct, sort, repartition, limit, aggregate, window, Plans}
use Rattle.plan.specs.Syntax.{pnil, pcons}
use Rattle.rewrite.specs.PushDownFilter.{rewrite, merges}
use Rattle.image.specs.Limits.{record_bytes}
use Rattle.plan.specs.Trees.{entry_kids, key_kids, agg_kids, win_kids}
use Rattle.plan.specs.Measure.{size_e, size_p, sizes}
use Rattle.rewrite.specs.Limits.{within_limits}

-- ---- the plan that stands at a record

-- a plan within a plan: what stands there, and the whole with another in its place
pub record Focus : Type 0 where
  pub plan : Plan
  pub back : Plan → Plan

-- a plan within the inputs of a Union
pub record FocusAll : Type 0 where
  pub plan : Plan
  pub back : Plan → Plans

-- the plan itself
abbrev pub here : Plan → Option Focus
here p = some (record { plan = p; back = λ q. q })

-- what is found in an input, seen from the plan above it
abbrev pub focus_in : (Plan → Plan) → Option Focus → Option Focus
focus_in f none = none
focus_in f (some c) = some (record { plan = c.plan; back = λ q. f (c.back q) })

-- .. seen from the Union above its inputs
abbrev pub inside_all : (Plans → Plan) → Option FocusAll → Option Focus
inside_all f none = none
inside_all f (some c) = some (record { plan = c.plan; back = λ q. f (c.back q) })

-- what is found in the first input of a Union
abbrev pub first_of : Plans → Option Focus → Option FocusAll
first_of ps none = none
first_of ps (some c) = some (record { plan = c.plan; back = λ q. pcons (c.back q) ps })

-- .. in the later ones
abbrev pub later_of : Plan → Option FocusAll → Option FocusAll
later_of p none = none
later_of p (some c) = some (record { plan = c.plan; back = λ q. pcons p (c.back q) })

-- record `n` is the plan's own, or it is looked for below
abbrev pub own_or : ℕ → Plan → Option Focus → Option Focus
own_or n p o = choose (eqb n 0) (here p) o

-- an input that stands behind `k` records
abbrev pub behind : ℕ → ℕ → (Plan → Plan) → Option Focus → Option Focus
behind k n f o = choose (leb k n) (focus_in f o) none

-- the plan at the record `n`, counted from the plan's own record; none where no record or no plan stands there
unfoldable mutual
  pub focus : ℕ → Plan → Option Focus
  focus n (scan t fs es) = own_or n (scan t fs es) none
  focus n (filter e p) = let k = suc (size_e e) in own_or n (filter e p) (behind k n (filter e) (focus (n - k) p))
  focus n (project es p) = let k = suc (sizes entry_kids es) in own_or n (project es p) (behind k n (project es) (focus (n - k) p))
  focus n (join k l r on g) =
      let m = suc (size_p l) in
      own_or n (join k l r on g)
      (choose (leb m n) (focus_in (λ q. join k l q on g) (focus (n - m) r)) (focus_in (λ q. join k q r on g) (focus (n - 1) l)))
  focus n (alias q p) = own_or n (alias q p) (focus_in (alias q) (focus (n - 1) p))
  focus n (union ps) = own_or n (union ps) (inside_all union (focus_all (n - 1) ps))
  focus n (distinct p) = own_or n (distinct p) (focus_in distinct (focus (n - 1) p))
  focus n (sort f ks p) = let k = suc (sizes key_kids ks) in own_or n (sort f ks p) (behind k n (sort f ks) (focus (n - k) p))
  focus n (repartition p) = own_or n (repartition p) (focus_in repartition (focus (n - 1) p))
  focus n (limit i j p) = own_or n (limit i j p) (focus_in (limit i j) (focus (n - 1) p))
  focus n (aggregate gs ags p) =
      let k = suc (sizes entry_kids gs + sizes agg_kids ags) in
      own_or n (aggregate gs ags p) (behind k n (aggregate gs ags) (focus (n - k) p))
  focus n (window ws p) = let k = suc (sizes win_kids ws) in own_or n (window ws p) (behind k n (window ws) (focus (n - k) p))

  pub focus_all : ℕ → Plans → Option FocusAll
  focus_all n pnil = none
  focus_all n (pcons p ps) = choose (leb (size_p p) n) (later_of p (focus_all (n - size_p p) ps)) (first_of ps (focus n p))

-- ---- rewrite at a record

-- the flag and the plan, or the number of a refusal and its record
pub data Answer : Type 0 where
  granted : Bool → Plan → Answer
  refused : ℕ → ℕ → Answer

-- test 11: the answer and the plan after each merge of Filters are within the limits
unfoldable pub result_fits : Focus → Bool
result_fits c = within_limits (c.back (rewrite c.plan).plan) & all (λ m. within_limits (c.back m)) (merges c.plan)

-- test 8: no plan stands there; else the rewrite of what does, or test 11
unfoldable pub rewrite_in : ℕ → Option Focus → Answer
rewrite_in n none = refused 8 n
rewrite_in n (some c) =
    choose (result_fits c) (granted (rewrite c.plan).transformed (c.back (rewrite c.plan).plan)) (refused 11 n)

-- PushDownFilter::rewrite of the plan at record `n`, in its place
unfoldable pub rewrite_at : ℕ → Plan → Answer
rewrite_at n p = rewrite_in n (focus n p)

-- test 12: the bytes of the answer find room
unfoldable pub with_room : ℕ → Answer → Answer
with_room room (refused k r) = refused k r
with_room room (granted f q) = choose (leb (record_bytes * size_p q) room) (granted f q) (refused 12 0)

-- a call: a record number and the length of the output in bytes
unfoldable pub rewrite_call : ℕ → ℕ → Plan → Answer
rewrite_call n room p = with_room room (rewrite_at n p)
