-- The cases K1 to K12 of docs/REWRITE.md: one table, one theorem. A case is a plan, and what a rewrite at its root answers.
use Prim.Native.Nat.{ℕ}
use mathlib.Core.Path.{◌≡◌, refl}
use mathlib.Core.Bool.{true, false}
use mathlib.Core.List.{List, [], ◌∷◌, map}
use mathlib.Core.Option.{none, some}
use lib.IntN.{pos}
use Rattle.plan.specs.Syntax.{nm, Expr, col, num, bin, nul, fn, enil, and, or, cmp, eq, gt, ge, lt, bool, Field, Pair, count, inner, left}
use Rattle.plan.specs.Syntax.{Plan, scan, filter, join, limit, aggregate}
use Rattle.rewrite.specs.RewriteAt.{Answer, granted, refused, rewrite_at, rewrite_call}
use Rattle.rewrite.specs.Pass.{passed, pass_refused, pass, pass_call}
use Rattle.rewrite.proofs.Opened.{opened}

abbrev c : Expr
c = col (nm 1 1)

abbrev n : ℕ → Expr
n k = num (pos k)

abbrev is : Expr → Expr → Expr
is a b = bin (cmp eq) a b

abbrev over : Expr → Expr → Expr
over a b = bin (cmp gt) a b

abbrev both : Expr → Expr → Expr
both a b = bin and a b

abbrev field : ℕ → ℕ → Field
field q k = record { name = nm q k; ty = 1; exact = false }

-- no field of the tables is marked, so that what is simplified stays in sight
abbrev t : Plan
t = scan 1 (field 1 1 ∷ []) []

-- a function of type 2 (boolean), of marks q: volatile if q is 1
abbrev f : ℕ → Expr
f q = fn 1 q 2 enil

-- l.a, l.k, r.b, r.k
abbrev la : Expr
la = col (nm 1 1)

abbrev lk : Expr
lk = col (nm 1 2)

abbrev rb : Expr
rb = col (nm 2 1)

abbrev rk : Expr
rk = col (nm 2 2)

abbrev l : Plan
l = scan 1 (field 1 1 ∷ field 1 2 ∷ []) []

abbrev r : Plan
r = scan 2 (field 2 1 ∷ field 2 2 ∷ []) []

abbrev keys : List Pair
keys = record { lhs = lk; rhs = rk } ∷ []

-- a group-less Count
abbrev counted : Plan
counted = aggregate [] (record { name = nm 0 9; fun = count; expr = c } ∷ []) t

abbrev number : Expr
number = col (nm 0 9)

pub record Case : Type 0 where
  pub given : Plan
  pub answer : Answer

abbrev flag_yes : Plan → Plan → Case
flag_yes p q = record { given = p; answer = granted true q }

abbrev flag_no : Plan → Plan → Case
flag_no p q = record { given = p; answer = granted false q }

abbrev ors : Expr
ors = bin or (both (is la (n 1)) (is rb (n 2))) (both (is la (n 3)) (is rb (n 4)))

abbrev pub cases : List Case
cases =
    -- K1 c>3, c>=7: c>=7
    flag_no (filter (both (over c (n 3)) (bin (cmp ge) c (n 7))) t) (filter (bin (cmp ge) c (n 7)) t)
    -- K2 c>=5, 5<c: 5<c
    ∷ flag_no (filter (both (bin (cmp ge) c (n 5)) (bin (cmp lt) (n 5) c)) t) (filter (bin (cmp lt) (n 5) c) t)
    -- K3 c=5, 5=c: 5=c
    ∷ flag_no (filter (both (is c (n 5)) (is (n 5) c)) t) (filter (is (n 5) c) t)
    -- K4 c=1, c=2: FALSE
    ∷ flag_no (filter (both (is c (n 1)) (is c (n 2))) t) (filter (bool false) t)
    -- K5 c>NULL, c>5: c>NULL
    ∷ flag_no (filter (both (over c (nul 1)) (over c (n 5))) t) (filter (over c (nul 1)) t)
    -- K6 f, c>1: c>1, f; unchanged if f is volatile
    ∷ flag_no (filter (both (f 0) (over c (n 1))) t) (filter (both (over c (n 1)) (f 0)) t)
    ∷ flag_no (filter (both (f 1) (over c (n 1))) t) (filter (both (f 1) (over c (n 1))) t)
    -- K7 (l.a=1 AND r.b=2) OR (l.a=3 AND r.b=4) over Inner: left gains l.a=1 OR l.a=3
    ∷ flag_yes (filter ors (join inner l r [] none))
    (join inner (filter (bin or (is la (n 1)) (is la (n 3))) l) (filter (bin or (is rb (n 2)) (is rb (n 4))) r) [] (some ors))
    -- K8 l.a=1 OR r.b=2: no clause
    ∷ flag_yes (filter (bin or (is la (n 1)) (is rb (n 2))) (join inner l r [] none)) (join inner l r [] (some (bin or (is la (n 1)) (is rb (n 2)))))
    -- K9 Inner l.k=r.k under l.k>5: right gains r.k>5
    ∷ flag_yes (filter (over lk (n 5)) (join inner l r keys none)) (join inner (filter (over lk (n 5)) l) (filter (over rk (n 5)) r) keys none)
    -- K10 Left under r.b>0: kept, flag no
    ∷ flag_no (filter (over rb (n 0)) (join left l r keys none)) (filter (over rb (n 0)) (join left l r keys none))
    -- K11 n=1 AND n=2 over a group-less Count n: FALSE stays above
    ∷ flag_no (filter (both (is number (n 1)) (is number (n 2))) counted) (filter (bool false) counted)
    -- K12 Filter over Limit: not moved
    ∷ flag_no (filter (over c (n 0)) (limit 1 0 t)) (filter (over c (n 0)) (limit 1 0 t))
    ∷ []

pub table : map (λ (k : Case). rewrite_at 0 k.given) cases ≡ map (λ (k : Case). k.answer) cases
unfolding opened
table = refl

-- ---- the lister's example, a budget of 0, and the refusals 8 and 12

abbrev marked_t : List Expr → Plan
marked_t es = scan 1 (record { name = nm 1 1; ty = 1; exact = true } ∷ []) es

abbrev example : Plan
example = filter (over c (n 5)) (marked_t [])

-- visits 1, changed 1, finished 1
pub lister : pass 10000 example ≡ passed 1 1 1 (marked_t (over c (n 5) ∷ []))
unfolding opened
lister = refl

-- budget 0 visits none
pub no_budget : pass 0 example ≡ passed 0 0 0 example
unfolding opened
no_budget = refl

-- record 1 is the predicate, and there is no record 6
pub no_plan_there : rewrite_at 1 example ≡ refused 8 1
unfolding opened
no_plan_there = refl

pub no_record_there : rewrite_at 6 example ≡ refused 8 6
unfolding opened
no_record_there = refl

-- the answer takes five records of 32 bytes
pub no_room : rewrite_call 0 159 example ≡ refused 12 0
unfolding opened
no_room = refl

pub room_enough : rewrite_call 0 160 example ≡ granted true (marked_t (over c (n 5) ∷ []))
unfolding opened
room_enough = refl

pub no_room_for_the_pass : pass_call 10000 159 example ≡ pass_refused 12 0
unfolding opened
no_room_for_the_pass = refl
