-- The pass by children (docs/REWRITE.md, The pass) is the pass from one record that holds a plan to the next. A visit by children, where it
-- goes on, comes to the plan and the counts at which the pass by records stands when it has done the records of the subtree.
use Prim.Native.Nat.{ℕ, zero, suc, ◌+◌, ◌-◌, ◌≤◌, ◌<◌}
use native.Mathlib.Omega.{arith}
use mathlib.Core.Path.{◌≡◌, refl, sym, ap, ◌∙◌}
use mathlib.Core.Bool.{Bool, true, false}
use mathlib.Core.List.{List}
use mathlib.Core.Option.{Option, none, some}
use lib.Dec.{eqb, leb}
use borrow.Author.Tests.{leb-true, le-leb, lt-leb, ne_eqb}
use Rattle.image.specs.Limits.{max_depth}
use Rattle.plan.specs.Lists.{choose}
use Rattle.plan.proofs.Lists.{and_l, and_r}
use Rattle.plan.specs.Syntax.{Expr, Pair, Kind, Plan, scan, filter, project, join, alias, union, distinct, sort, repartition, limit}
use Rattle.plan.specs.Syntax.{aggregate, window, Plans, pnil, pcons}
use Rattle.plan.specs.Trees.{bit_of, entry_kids, key_kids, agg_kids, win_kids, forest_p}
use Rattle.rewrite.specs.PushDownFilter.{rewrite}
use Rattle.plan.specs.Measure.{size_e, sizes, size_p, depth_p}
use Rattle.plan.proofs.Measure.{size_ps, size_filter, size_project, size_join, size_alias, size_union, size_distinct, size_sort}
use Rattle.plan.proofs.Measure.{size_repartition, size_limit, size_aggregate, size_window, size_pnil, size_pcons, one_record, one_level}
use Rattle.rewrite.specs.Limits.{within_limits}
use Rattle.rewrite.specs.RewriteAt.{Focus, here, focus_in, focus, Answer, granted, refused, result_fits, rewrite_in, rewrite_at}
use Rattle.rewrite.specs.Pass.{inputs, first_input, of_focus, at_record, Walk, walking, spent, failed, and_then, each_input, visit}
use Rattle.rewrite.specs.Pass.{PassAnswer, passed, pass_refused, report, pass, plans}
use Rattle.rewrite.specs.PassByRecords.{plan_from, visits, pass_by_records}
use Rattle.rewrite.proofs.PlanFrom.{from_here, from_later, from_end, focus_end}
use Rattle.rewrite.proofs.Holes.{Holed, HoledAll, found_here, whole, within, in_filter, in_project, in_alias, in_distinct, in_sort}
use Rattle.rewrite.proofs.Holes.{in_repartition, in_limit, in_aggregate, in_window, in_left, in_right, in_union, in_first, in_later}
use Rattle.rewrite.proofs.Inputs.{Inputs, no_inputs, inputs_filter, inputs_project, inputs_join, inputs_alias, inputs_union}
use Rattle.rewrite.proofs.Inputs.{inputs_pnil, inputs_pcons, inputs_distinct, inputs_sort, inputs_repartition, inputs_limit}
use Rattle.rewrite.proofs.Inputs.{inputs_aggregate, inputs_window}

-- `r`, what the pass by records answers, seen from a walk through what stands in `C` at record `n`
data Reached {A : Type 0} (size : A → ℕ) (n : ℕ) (C : A → Plan) (r : PassAnswer) : Walk → Type 0 where
  goes_on : {b v c : ℕ} (a : A) → within_limits (C a) ≡ true → r ≡ visits b (plan_from (n + size a) (C a)) (C a) v c → Reached size n C r (walking (C a) b v c)
  stops : {q : Plan} {v c : ℕ} → r ≡ passed v c 0 q → Reached size n C r (spent q v c)
  fails : {k i : ℕ} → r ≡ pass_refused k i → Reached size n C r (failed k i)

-- another way to write the answer
rewritten : {A : Type 0} (size : A → ℕ) (n : ℕ) (C : A → Plan) {r s : PassAnswer} {w : Walk} → r ≡ s → Reached size n C s w → Reached size n C r w
rewritten size n C e (goes_on a f h) = goes_on a f (e ∙ h)
rewritten size n C e (stops h) = stops (e ∙ h)
rewritten size n C e (fails h) = fails (e ∙ h)

module _ {A B : Type 0} (sizeA : A → ℕ) (sizeB : B → ℕ) (n m : ℕ) (C : A → Plan) (D : B → Plan) where
  -- a walk, and then another
  then_reached : {r : PassAnswer} {w : Walk} (g : Plan → ℕ → ℕ → ℕ → Walk)
      → ((a : A) (b v c : ℕ) → within_limits (C a) ≡ true → r ≡ visits b (plan_from (n + sizeA a) (C a)) (C a) v c → Reached sizeB m D r (g (C a) b v c))
      → Reached sizeA n C r w → Reached sizeB m D r (and_then w g)
  then_reached g k (goes_on a f h) = k a _ _ _ f h
  then_reached g k (stops h) = stops h
  then_reached g k (fails h) = fails h

-- what is put into a part is put into the whole
module _ {A B : Type 0} (sizeA : A → ℕ) (sizeB : B → ℕ) (n m : ℕ) (C : B → Plan) (f : A → B) where
  around : ((a : A) → plan_from (n + sizeA a) (C (f a)) ≡ plan_from (m + sizeB (f a)) (C (f a)))
      → {r : PassAnswer} {w : Walk} → Reached sizeA n (λ a. C (f a)) r w → Reached sizeB m C r w
  around e (goes_on a i h) = goes_on (f a) i (rw (e a) at h)
  around e (stops h) = stops h
  around e (fails h) = fails h

-- where no plan stands nothing is visited
gap : {n level : ℕ} (C : Plan → Plan) → Holed n level C → (t : Plan) (count i : ℕ) → i + count ≤ size_p t
    → ((m : ℕ) → i ≤ m → m < i + count → focus m t ≡ none) → plan_from (n + i) (C t) ≡ plan_from (n + (i + count)) (C t)
gap {n} C h t zero i s f = let e : n + i ≡ n + (i + 0) = omega arith in ap (λ x. plan_from x (C t)) e
gap {n} C h t (suc count) i s f =
    let e : suc (n + i) ≡ n + suc i = omega arith in
    let e' : n + (suc i + count) ≡ n + (i + suc count) = omega arith in
    from_later (n + i) (C t) (h.found i t (omega arith) ∙ ap (focus_in C) (f i (omega arith) (omega arith)))
    ∙ ap (λ x. plan_from x (C t)) e
    ∙ gap C h t count (suc i) (omega arith) (λ m j l. f m (omega arith) (omega arith))
    ∙ ap (λ x. plan_from x (C t)) e'

-- the plan in its place
at_hole : {n level : ℕ} (C : Plan → Plan) → Holed n level C → (f : Plan → ℕ) (t : Plan) → at_record f n (C t) ≡ f t
at_hole C h f t = ap (of_focus f) (found_here h t)

enter : {n level : ℕ} (C : Plan → Plan) → Holed n level C → (t : Plan) → plan_from n (C t) ≡ some n
enter {n} C h t = from_here n (C t) _ (found_here h t)

-- no plan stands between a plan's own record and its inputs, nor behind a Join's inputs
before_input : (k m : ℕ) (p : Plan) (x : Option Focus) → 0 < m → m < suc k → choose (eqb m 0) (here p) (choose (leb (suc k) m) x none) ≡ none
unfolding choose
before_input k m p x h l = rw (ne_eqb m 0 (λ e. omega arith), lt-leb (suc k) m l)

not_first : (m : ℕ) (p : Plan) → 0 < m → choose (eqb m 0) (here p) none ≡ none
unfolding choose
not_first m p h = rw (ne_eqb m 0 (λ e. omega arith))

right_end : (m l : ℕ) (p : Plan) (f : Plan → Plan) (r : Plan) (x : Option Focus) → suc l ≤ m → size_p r ≤ m - suc l
    → choose (eqb m 0) (here p) (choose (leb (suc l) m) (focus_in f (focus (m - suc l) r)) x) ≡ none
unfolding choose
right_end m l p f r x i j = rw (ne_eqb m 0 (λ e. omega arith), le-leb (suc l) m i, focus_end (m - suc l) r j)

-- ---- the inputs of a plan that stands in `C` at record `n`, if the visits one level below agree

module _ (d level : ℕ)
    (below : (n : ℕ) (C : Plan → Plan) → Holed n (suc level) C → (t : Plan) → within_limits (C t) ≡ true → (b v c : ℕ)
    → Reached size_p n C (visits b (some n) (C t) v c) (visit d n (C t) b v c))
    {n : ℕ} (C : Plan → Plan) (h : Holed n level C) where
  -- one input, the only one or the last
  last_input : {k : ℕ} (i : ℕ) (F : Plan → Plan) → Holed k 1 F → i ≡ n + k
      → ((s : Plan) → plan_from (i + size_p s) (C (F s)) ≡ plan_from (n + size_p (F s)) (C (F s)))
      → (s : Plan) → within_limits (C (F s)) ≡ true → (b v c : ℕ)
      → Reached size_p n C (visits b (plan_from i (C (F s))) (C (F s)) v c) (each_input (visit d) 1 i (C (F s)) b v c)
  unfolding each_input
  last_input i F g e tail s f b v c =
      let w : Holed i (suc level) (λ q. C (F q)) = within i (suc level) C F h g e (omega arith) in
      then_reached size_p size_p i n (λ q. C (F q)) C _
      (λ a b v c f r. goes_on (F a) f (rw (tail a) at r))
      (rewritten size_p i (λ q. C (F q)) (ap (λ o. visits b o (C (F s)) v c) (enter (λ q. C (F q)) w s)) (below i (λ q. C (F q)) w s f b v c))

  -- a plan with one input, behind `k` records of its own
  one_input : (k : ℕ) (F : Plan → Plan) → Holed (suc k) 1 F
      → ((s : Plan) → size_p (F s) ≡ suc (k + size_p s))
      → ((s : Plan) (m : ℕ) → 0 < m → m < suc k → focus m (F s) ≡ none)
      → (s : Plan) → within_limits (C (F s)) ≡ true → (b v c : ℕ)
      → Reached size_p n C (visits b (plan_from (suc n) (C (F s))) (C (F s)) v c) (each_input (visit d) 1 (n + suc k) (C (F s)) b v c)
  one_input k F g exact empty s f b v c =
      let e : suc n ≡ n + 1 = omega arith in
      let e' : n + (1 + k) ≡ n + suc k = omega arith in
      let skip : plan_from (suc n) (C (F s)) ≡ plan_from (n + suc k) (C (F s)) =
      ap (λ x. plan_from x (C (F s))) e
      ∙ gap C h (F s) k 1 (omega (arith, exact s)) (λ m i l. empty s m (omega arith) (omega arith))
      ∙ ap (λ x. plan_from x (C (F s))) e' in
      rewritten size_p n C (ap (λ o. visits b o (C (F s)) v c) skip)
      (last_input (n + suc k) F g refl
      (λ s. let e : n + suc k + size_p s ≡ n + size_p (F s) = omega (arith, exact s) in ap (λ x. plan_from x (C (F s))) e)
      s f b v c)

  -- right behind it
  next_input : (F : Plan → Plan) → Holed 1 1 F → ((s : Plan) → size_p (F s) ≡ suc (size_p s)) → (s : Plan) → within_limits (C (F s)) ≡ true → (b v c : ℕ)
      → Reached size_p n C (visits b (plan_from (suc n) (C (F s))) (C (F s)) v c) (each_input (visit d) 1 (n + 1) (C (F s)) b v c)
  next_input F g exact s f b v c = one_input 0 F g (λ s. omega (arith, exact s)) (λ s m i l. absurd (omega arith)) s f b v c

  no_input : (t : Plan) → ((m : ℕ) → 0 < m → focus m t ≡ none) → within_limits (C t) ≡ true → (b v c : ℕ)
      → Reached size_p n C (visits b (plan_from (suc n) (C t)) (C t) v c) (walking (C t) b v c)
  no_input t empty f b v c =
      let e : suc n ≡ n + 1 = omega arith in
      let e' : n + (1 + (size_p t - 1)) ≡ n + size_p t = omega (arith, one_record t) in
      goes_on t f (ap (λ o. visits b o (C t) v c) (ap (λ x. plan_from x (C t)) e
      ∙ gap C h t (size_p t - 1) 1 (omega (arith, one_record t)) (λ m i l. empty m (omega arith))
      ∙ ap (λ x. plan_from x (C t)) e'))

  -- a Join: no plan stands behind its inputs
  join_tail : (k : Kind) (on : List Pair) (g : Option Expr) (l r : Plan)
      → plan_from (n + 1 + size_p l + size_p r) (C (join k l r on g)) ≡ plan_from (n + size_p (join k l r on g)) (C (join k l r on g))
  unfolding focus
  join_tail k on g l r =
      let i : ℕ = 1 + size_p l + size_p r in
      let t : Plan = join k l r on g in
      let z = size_join k l r on g in
      let e : n + 1 + size_p l + size_p r ≡ n + i = omega arith in
      let e' : n + (i + (size_p t - i)) ≡ n + size_p t = omega arith in
      ap (λ x. plan_from x (C t)) e
      ∙ gap C h t (size_p t - i) i (omega arith) (λ m s u. right_end m (size_p l) t (λ x. join k l x on g) r (focus_in (λ q. join k q r on g)
      (focus (m - 1) l)) (omega arith) (omega arith))
      ∙ ap (λ x. plan_from x (C t)) e'

  right_input : (k : Kind) (on : List Pair) (g : Option Expr) (l r : Plan) (b v c : ℕ) → within_limits (C (join k l r on g)) ≡ true
      → {x : PassAnswer} → x ≡ visits b (plan_from (n + 1 + size_p l) (C (join k l r on g))) (C (join k l r on g)) v c
      → Holed (n + 1) (suc level) (λ q. C (join k q r on g))
      → Reached size_p n C x (each_input (visit d) 1 (n + 1 + at_record size_p (n + 1) (C (join k l r on g))) (C (join k l r on g)) b v c)
  right_input k on g l r b v c f e w =
      rw (at_hole (λ q. C (join k q r on g)) w size_p l)
      (rewritten size_p n C e (last_input (n + 1 + size_p l) (λ q. join k l q on g) (in_right k l on g) (omega arith) (join_tail k on g l) r f b v c))

  two_inputs : (k : Kind) (l r : Plan) (on : List Pair) (g : Option Expr) → within_limits (C (join k l r on g)) ≡ true → (b v c : ℕ)
      → Reached size_p n C (visits b (plan_from (suc n) (C (join k l r on g))) (C (join k l r on g)) v c)
      (each_input (visit d) 2 (n + 1) (C (join k l r on g)) b v c)
  unfolding each_input
  two_inputs k l r on g f b v c =
      let L : Plan → Plan = λ q. C (join k q r on g) in
      let w : Holed (n + 1) (suc level) L = within (n + 1) (suc level) C (λ q. join k q r on g) h (in_left k r on g) refl (omega arith) in
      let e : suc n ≡ n + 1 = omega arith in
      then_reached size_p size_p (n + 1) n L C _
      (λ a b v c f e. right_input k on g a r b v c f e w)
      (rewritten size_p (n + 1) L (ap (λ o. visits b o (L l) v c) (ap (λ x. plan_from x (L l)) e ∙ enter L w l)) (below (n + 1) L w l f b v c))

  -- a run of inputs of a Union
  run_of_inputs : (ps : Plans) (i : ℕ) (K : Plans → Plan) → HoledAll i (suc level) K → within_limits (K ps) ≡ true → (b v c : ℕ)
      → {r : PassAnswer} → r ≡ visits b (plan_from i (K ps)) (K ps) v c
      → Reached size_ps i K r (each_input (visit d) (plans (forest_p ps)) i (K ps) b v c)
  unfolding each_input
  run_of_inputs pnil i K w f b v c e =
      let z : i ≡ i + size_ps pnil = omega (arith, size_pnil) in
      rw inputs_pnil (goes_on pnil f (e ∙ ap (λ x. visits b (plan_from x (K pnil)) (K pnil) v c) z))
  run_of_inputs (pcons p ps) i K w f b v c {r} e =
      let F : Plan → Plan = λ q. K (pcons q ps) in
      let u : Holed i (suc level) F = in_first K w ps in
      rw (inputs_pcons p ps)
      (then_reached size_p size_ps i i F K _
      (λ a b v c f e. rw (at_hole F u size_p a)
      (around size_ps size_ps (i + size_p a) i K (pcons a)
      (λ ts. let z : i + size_p a + size_ps ts ≡ i + size_ps (pcons a ts) = omega (arith, size_pcons a ts) in ap (λ x. plan_from x (K (pcons a ts))) z)
      (run_of_inputs ps (i + size_p a) (λ ts. K (pcons a ts)) (in_later K w a) f b v c e)))
      (rewritten size_p i F (e ∙ ap (λ o. visits b o (F p) v c) (enter F u p)) (below i F u p f b v c)))

  union_inputs : (ps : Plans) → within_limits (C (union ps)) ≡ true → (b v c : ℕ)
      → Reached size_p n C (visits b (plan_from (suc n) (C (union ps))) (C (union ps)) v c)
      (each_input (visit d) (plans (forest_p ps)) (n + 1) (C (union ps)) b v c)
  union_inputs ps f b v c =
      let e : suc n ≡ n + 1 = omega arith in
      around size_ps size_p (n + 1) n C union
      (λ ts. let z : n + 1 + size_ps ts ≡ n + size_p (union ts) = omega (arith, size_union ts) in ap (λ x. plan_from x (C (union ts))) z)
      (run_of_inputs ps (n + 1) (λ ts. C (union ts)) (in_union (n + 1) (suc level) C h refl (omega arith)) f b v c
      (ap (λ x. visits b (plan_from x (C (union ps))) (C (union ps)) v c) e))

  standing : {t : Plan} {m k : ℕ} → Inputs t m k → {r : PassAnswer} (b v c : ℕ)
      → Reached size_p n C r (each_input (visit d) m (n + suc k) (C t) b v c)
      → Reached size_p n C r (each_input (visit d) (inputs t) (n + first_input t) (C t) b v c)
  standing i b v c h = rw (i.count, i.first) h

  inputs_reached : (t : Plan) → within_limits (C t) ≡ true → (b v c : ℕ)
      → Reached size_p n C (visits b (plan_from (suc n) (C t)) (C t) v c) (each_input (visit d) (inputs t) (n + first_input t) (C t) b v c)
  unfolding focus each_input
  inputs_reached (scan t fs es) f b v c = rw (no_inputs t fs es) (no_input (scan t fs es) (λ m i. not_first m _ i) f b v c)
  inputs_reached (filter e p) f b v c =
      standing (inputs_filter e p) b v c
      (one_input (size_e e) (filter e) (in_filter e) (size_filter e) (λ s m i l. before_input _ m _ _ i l) p f b v c)
  inputs_reached (project es p) f b v c =
      standing (inputs_project es p) b v c
      (one_input (sizes entry_kids es) (project es) (in_project es) (size_project es) (λ s m i l. before_input _ m _ _ i l) p f b v c)
  inputs_reached (join k l r on g) f b v c = standing (inputs_join k l r on g) b v c (two_inputs k l r on g f b v c)
  inputs_reached (alias q p) f b v c = standing (inputs_alias q p) b v c (next_input (alias q) (in_alias q) (size_alias q) p f b v c)
  inputs_reached (union ps) f b v c = standing (inputs_union ps) b v c (union_inputs ps f b v c)
  inputs_reached (distinct p) f b v c = standing (inputs_distinct p) b v c (next_input distinct in_distinct size_distinct p f b v c)
  inputs_reached (sort g ks p) f b v c =
      standing (inputs_sort g ks p) b v c
      (one_input (sizes key_kids ks) (sort g ks) (in_sort g ks) (size_sort g ks) (λ s m i l. before_input _ m _ _ i l) p f b v c)
  inputs_reached (repartition p) f b v c = standing (inputs_repartition p) b v c (next_input repartition in_repartition size_repartition p f b v c)
  inputs_reached (limit x y p) f b v c = standing (inputs_limit x y p) b v c (next_input (limit x y) (in_limit x y) (size_limit x y) p f b v c)
  inputs_reached (aggregate gs ags p) f b v c =
      standing (inputs_aggregate gs ags p) b v c
      (one_input (sizes entry_kids gs + sizes agg_kids ags) (aggregate gs ags) (in_aggregate gs ags) (λ s. omega (arith, size_aggregate gs ags s))
      (λ s m i l. before_input _ m _ _ i l) p f b v c)
  inputs_reached (window ws p) f b v c =
      standing (inputs_window ws p) b v c
      (one_input (sizes win_kids ws) (window ws) (in_window ws) (size_window ws) (λ s m i l. before_input _ m _ _ i l) p f b v c)

-- ---- a visit, and the pass

fits_deep : (p : Plan) → within_limits p ≡ true → depth_p p ≤ max_depth
unfolding within_limits
fits_deep p h = leb-true (depth_p p) max_depth (and_l _ _ (and_r _ _ h))

-- a granted rewrite puts another plan that fits into the same place
data Changed (C : Plan → Plan) : Answer → Type 0 where
  changed : {flag : Bool} (t : Plan) → within_limits (C t) ≡ true → Changed C (granted flag (C t))
  unchanged : {k r : ℕ} → Changed C (refused k r)

rewrite_changed : {n level : ℕ} (C : Plan → Plan) → Holed n level C → (t : Plan) → Changed C (rewrite_at n (C t))
unfolding rewrite_at rewrite_in result_fits choose
rewrite_changed {n} C h t = rw (found_here h t) (go (result_fits (record { plan = t; back = C })) refl)
  where
    go : (b : Bool) → result_fits (record { plan = t; back = C }) ≡ b
        → Changed C (choose b (granted (rewrite t).transformed (C (rewrite t).plan)) (refused 11 n))
    go true e = changed (rewrite t).plan (and_l _ _ e)
    go false e = unchanged

module _ (d level : ℕ)
    (below : (n : ℕ) (C : Plan → Plan) → Holed n (suc level) C → (t : Plan) → within_limits (C t) ≡ true → (b v c : ℕ)
    → Reached size_p n C (visits b (some n) (C t) v c) (visit d n (C t) b v c))
    {n : ℕ} (C : Plan → Plan) (h : Holed n level C) where
  changed_reached : {a : Answer} → Changed C a → (b v c : ℕ)
      → Reached size_p n C
      (elim a as (λ x. PassAnswer) [ granted f q ↦ visits b (plan_from (suc n) q) q (v + 1) (c + bit_of f) | refused k r ↦ pass_refused k r ])
      (elim a as (λ x. Walk) [
        | granted f q ↦ each_input (visit d) (at_record inputs n q) (n + at_record first_input n q) q b (v + 1) (c + bit_of f)
        | refused k r ↦ failed k r
      ])
  changed_reached (changed t f) b v c = rw (at_hole C h inputs t, at_hole C h first_input t) (inputs_reached d level below C h t f b _ _)
  changed_reached unchanged b v c = fails refl

visit_reached : (d level : ℕ) → level + d ≡ max_depth → (n : ℕ) (C : Plan → Plan) → Holed n level C → (t : Plan) → within_limits (C t) ≡ true → (b v c : ℕ)
    → Reached size_p n C (visits b (some n) (C t) v c) (visit d n (C t) b v c)
unfolding visit visits
visit_reached zero level e n C h t f b v c = absurd (omega (arith, h.deep t, one_level t, fits_deep (C t) f))
visit_reached (suc d) level e n C h t f zero v c = stops refl
visit_reached (suc d) level e n C h t f (suc b) v c =
    changed_reached d level (λ n C h t f b v c. visit_reached d (suc level) (omega arith) n C h t f b v c) C h (rewrite_changed C h t) b v c

done : (b : ℕ) (p : Plan) (v c : ℕ) → visits b none p v c ≡ passed v c 1 p
unfolding visits
done zero p v c = refl
done (suc b) p v c = refl

reported : {r : PassAnswer} {w : Walk} → Reached size_p 0 (λ q. q) r w → report w ≡ r
reported (goes_on {b = b} {v = v} {c = c} t f h) = sym (h ∙ ap (λ o. visits b o t v c) (from_end (0 + size_p t) t (omega arith)) ∙ done b t v c)
reported (stops h) = sym h
reported (fails h) = sym h

pub pass_agrees : (budget : ℕ) (p : Plan) → within_limits p ≡ true → pass budget p ≡ pass_by_records budget p
unfolding pass pass_by_records
pass_agrees budget p f = reported (visit_reached max_depth 0 (omega arith) 0 (λ q. q) whole p f budget 0 0)
