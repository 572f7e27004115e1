-- The integers of a plan that is read from records have 64 bits.
-- Assumes nothing.
use Prim.Native.Nat.{ℕ, ◌+◌, ◌*◌, ◌-◌, ◌≤◌}
use native.Mathlib.Omega.{arith}
use mathlib.Core.Path.{◌≡◌, refl}
use mathlib.Core.Bool.{Bool, true, false, cond}
use mathlib.Core.List.{[], ◌∷◌}
use lib.Dec.{ltb}
use lib.IntN.{pos, negsuc}
use borrow.Author.Tests.{ltb-true, ltb-false}
use Rattle.image.specs.Tree.{Label, Forest, none, node, Tree}
use Rattle.plan.specs.Kinds as K
use Rattle.plan.specs.Kinds.{What, expr, plan, part, unknown, what}
use Rattle.plan.specs.Words.{row_e, Worded}
use Rattle.plan.specs.Form.{past}
use Rattle.image.specs.Lowest.{alone}
use Rattle.plan.specs.Syntax.{Exprs, enil, econs, Entry, Pair, Key, AggEntry, WinEntry, Plans, pnil, pcons}
use Rattle.plan.specs.Integers.{FitsE, FitsEs, Every, Fits?, FitsP, FitsPs, FitsZ}
use Rattle.plan.specs.Read.{signed, head_e, tail_e, list_e, perhaps_e, expr_of, expr_by, exprs_of, entry_of, pair_of, key_of, agg_of, win_of, run}
use Rattle.plan.specs.Read.{rest, head_p, tail_p, is_field, is_entry, is_pair, is_key, is_agg, is_win, plan_from, plans_by, plans_of, plan_at}
use Rattle.plan.proofs.Rebuilt.{Bounds, bounds, words_at, worded_past}

signed_fits : (lo hi : ℕ) → lo ≤ 4294967295 → hi ≤ 4294967295 → FitsZ (signed lo hi)
unfolding signed
signed_fits lo hi a b = go (ltb hi 2147483648) refl
  where
    go : (t : Bool) → ltb hi 2147483648 ≡ t
        → FitsZ (cond t (pos (hi * 4294967296 + lo)) (negsuc ((4294967295 - hi) * 4294967296 + (4294967295 - lo))))
    go true e = omega (arith, ltb-true hi 2147483648 e)
    go false e = omega (arith, ltb-false hi 2147483648 e)

head_fits : (es : Exprs) → FitsEs es → FitsE (head_e es)
head_fits enil h = tt
head_fits (econs e es) h = h.0

tail_fits : (es : Exprs) → FitsEs es → FitsEs (tail_e es)
tail_fits enil h = tt
tail_fits (econs e es) h = h.1

list_fits : (es : Exprs) → FitsEs es → Every FitsE (list_e es)
list_fits enil h = tt
list_fits (econs e es) h = (h.0, list_fits es h.1)

perhaps_fits : (es : Exprs) → FitsEs es → Fits? (perhaps_e es)
perhaps_fits enil h = tt
perhaps_fits (econs e es) h = h.0

expr_fits : (k : K.ExprKind) (l : Label) (es : Exprs) → Bounds (row_e k) l → FitsEs es → FitsE (expr_of k l es)
expr_fits K.Column l es b h = tt
expr_fits K.Integer l es b h = signed_fits l.lo l.hi b.lo₁ b.hi₁
expr_fits K.Boolean l es b h = tt
expr_fits K.Null l es b h = tt
expr_fits K.Binary l es b h = (head_fits es h, head_fits (tail_e es) (tail_fits es h))
expr_fits K.Not l es b h = head_fits es h
expr_fits K.Test l es b h = head_fits es h
expr_fits K.Between l es b h = (
  head_fits es h,
  head_fits (tail_e es) (tail_fits es h),
  head_fits (tail_e (tail_e es))
      (tail_fits (tail_e es) (tail_fits es h)),
)
expr_fits K.InList l es b h = (head_fits es h, tail_fits es h)
expr_fits K.Function l es b h = h

exprs_fit : (f : Forest) → Worded f → FitsEs (exprs_of f)
unfolding exprs_of
exprs_fit none w = tt
exprs_fit (node l cs ns) w = (go (what l) refl (exprs_fit cs w.1), exprs_fit ns w.2)
  where
    go : (v : What) → what l ≡ v → FitsEs (exprs_of cs) → FitsE (expr_by v l (exprs_of cs))
    go (expr k) e h = expr_fits k l (exprs_of cs) (bounds (row_e k) l (words_at l (expr k) e w.0)) h
    go (plan k) e h = tt
    go (part k) e h = tt
    go unknown e h = tt

first_fits : (f : Forest) → Worded f → FitsE (head_e (exprs_of f))
first_fits f w = head_fits (exprs_of f) (exprs_fit f w)

module _ {A : Type 0} (P : A → Type 0) (is : Label → Bool) (make : Label → Forest → A)
    (one : (l : Label) (c : Forest) → Worded c → P (make l c)) where
  run_fits : (f : Forest) → Worded f → Every P (run is make f)
  unfolding run
  run_fits none w = tt
  run_fits (node l c ns) w = go (is l) (run_fits ns w.2)
    where
      go : (b : Bool) → Every P (run is make ns) → Every P (cond b (make l c ∷ run is make ns) [])
      go true h = (one l c w.1, h)
      go false h = tt

worded_rest : (f : Forest) → Worded f → Worded (rest f)
worded_rest none w = tt
worded_rest (node l cs ns) w = w.2

head_p_fits : (ps : Plans) → FitsPs ps → FitsP (head_p ps)
head_p_fits pnil h = tt
head_p_fits (pcons p ps) h = h.0

tail_p_fits : (ps : Plans) → FitsPs ps → FitsPs (tail_p ps)
tail_p_fits pnil h = tt
tail_p_fits (pcons p ps) h = h.1

plan_fits : (k : K.PlanKind) (l : Label) (cs : Forest) (ps : Plans) → Worded cs → FitsPs ps → FitsP (plan_from k l cs ps)
plan_fits K.TableScan l cs ps w h = list_fits (exprs_of (past is_field cs)) (exprs_fit (past is_field cs) (worded_past is_field cs w))
plan_fits K.Filter l cs ps w h = (first_fits cs w, head_p_fits ps h)
plan_fits K.Projection l cs ps w h = (run_fits (λ (e : Entry). FitsE e.expr) is_entry entry_of (λ l c v. first_fits c v) cs w, head_p_fits ps h)
plan_fits K.Join l cs ps w h =
    let v = worded_rest (rest cs) (worded_rest cs w) in (
      head_p_fits ps h,
      head_p_fits (tail_p ps) (tail_p_fits ps h),
      run_fits (λ (k : Pair). FitsE k.lhs × FitsE k.rhs) is_pair pair_of
          (λ l c v. (first_fits c v, head_fits (tail_e (exprs_of c)) (tail_fits (exprs_of c) (exprs_fit c v)))) (rest (rest cs)) v,
      perhaps_fits (exprs_of (past is_pair (rest (rest cs)))) (exprs_fit (past is_pair (rest (rest cs))) (worded_past is_pair (rest (rest cs)) v)),
    )
plan_fits K.SubqueryAlias l cs ps w h = head_p_fits ps h
plan_fits K.Union l cs ps w h = h
plan_fits K.Distinct l cs ps w h = head_p_fits ps h
plan_fits K.Sort l cs ps w h = (run_fits (λ (k : Key). FitsE k.expr) is_key key_of (λ l c v. first_fits c v) cs w, head_p_fits ps h)
plan_fits K.Repartition l cs ps w h = head_p_fits ps h
plan_fits K.Limit l cs ps w h = head_p_fits ps h
plan_fits K.Aggregate l cs ps w h = (
  run_fits (λ (e : Entry). FitsE e.expr) is_entry entry_of (λ l c v. first_fits c v) cs w,
  run_fits (λ (a : AggEntry). FitsE a.expr) is_agg agg_of (λ l c v. first_fits c v) (past is_entry cs) (worded_past is_entry cs w),
  head_p_fits ps h,
)
plan_fits K.Window l cs ps w h = (run_fits (λ (w : WinEntry). FitsE w.expr) is_win win_of (λ l c v. first_fits c v) cs w, head_p_fits ps h)

plans_fit : (f : Forest) → Worded f → FitsPs (plans_of f)
unfolding plans_of
plans_fit none w = tt
plans_fit (node l cs ns) w = go (what l) (plans_fit cs w.1) (plans_fit ns w.2)
  where
    go : (v : What) → FitsPs (plans_of cs) → FitsPs (plans_of ns) → FitsPs (plans_by v l cs (plans_of cs) (plans_of ns))
    go (expr k) h r = r
    go (plan k) h r = (plan_fits k l cs (plans_of cs) w.1 h, r)
    go (part k) h r = r
    go unknown h r = r

pub plan_at_fits : (t : Tree) → Worded (alone t) → FitsP (plan_at t)
unfolding plan_at
plan_at_fits t w = head_p_fits (plans_of (alone t)) (plans_fit (alone t) w)
