-- A plan within a plan, and a rewrite there: a test of every record passes of the answer if it passes of the plan given.
use Prim.Native.Nat.{ℕ, suc}
use mathlib.Core.Path.{◌≡◌, refl, ap, ◌∙◌}
use mathlib.Core.Bool.{Bool, true, false}
use mathlib.Core.Option.{Option, none, some}
use native.Mathlib.Omega.{arith}
use lib.Dec.{eqb}
use Rattle.plan.specs.Lists.{choose}
use Rattle.plan.proofs.Lists.{and_l, and_r, and_intro}
use Rattle.plan.specs.Syntax.{Plan, scan, filter, project, join, alias, union, distinct, sort, repartition, limit, aggregate, window, Plans}
use Rattle.plan.specs.Syntax.{pnil, pcons}
use Rattle.plan.specs.Trees.{label_p}
use Rattle.rewrite.specs.PushDownFilter.{rewrite}
use Rattle.rewrite.specs.RewriteAt.{Focus, FocusAll, here, focus_in, inside_all, first_of, later_of, focus, focus_all, granted, refused}
use Rattle.rewrite.specs.RewriteAt.{result_fits, rewrite_in, rewrite_at}
use Rattle.preservation.proofs.Everywhere.{Tests, Closed, count_p, everywhere, everywhere_all}
use Rattle.preservation.proofs.PlansKept.{Passes, rewrite_kept}

module _ (T : Tests) (c : Closed T) where
  -- the plan there passes, and the whole passes with another that passes in its place
  pub record InFocus (f : Focus) : Type 0 where
    pub there : Passes T f.plan
    pub put_back : (q : Plan) → Passes T q → Passes T (f.back q)

  data Focused : Option Focus → Type 0 where
    not_there : Focused none
    found : {f : Focus} → InFocus f → Focused (some f)

  -- among the inputs of a Union, which stay so many
  data FocusedAll (n : ℕ) : Option FocusAll → Type 0 where
    not_there_all : FocusedAll n none
    found_all : {f : FocusAll} → Passes T f.plan → ((q : Plan) → Passes T q → everywhere_all T (f.back q) ≡ true)
        → ((q : Plan) → count_p (f.back q) ≡ n) → FocusedAll n (some f)

  focus_here : (p : Plan) → Passes T p → Focused (here p)
  focus_here p o = found (record { there = o; put_back = λ q k. k })

  focus_inside : {o : Option Focus} (f : Plan → Plan) → ((q : Plan) → Passes T q → Passes T (f q)) → Focused o → Focused (focus_in f o)
  focus_inside f step not_there = not_there
  focus_inside f step (found h) = found (record { there = h.there; put_back = λ q k. step _ (h.put_back q k) })

  focus_union : (ps : Plans) {o : Option FocusAll} → Passes T (union ps) → FocusedAll (count_p ps) o → Focused (inside_all union o)
  unfolding everywhere label_p
  focus_union ps w not_there_all = not_there
  focus_union ps w (found_all h b n) = found (record {
    there = h;
    put_back = λ q k. and_intro (and_l _ _ w) (and_intro (ap (T.least 2) (n q) ∙ and_l _ _ (and_r _ _ w)) (b q k));
  })

  focus_first : (ps : Plans) {o : Option Focus} → everywhere_all T ps ≡ true → Focused o → FocusedAll (suc (count_p ps)) (first_of ps o)
  unfolding everywhere
  focus_first ps w not_there = not_there_all
  focus_first ps w (found h) = found_all h.there (λ q k. and_intro (h.put_back q k) w) (λ q. refl)

  focus_later : (p : Plan) {n : ℕ} {o : Option FocusAll} → Passes T p → FocusedAll n o → FocusedAll (suc n) (later_of p o)
  unfolding everywhere
  focus_later p w not_there_all = not_there_all
  focus_later p w (found_all h b n) = found_all h (λ q k. and_intro w (b q k)) (λ q. ap suc (n q))

  either : (b : Bool) {x y : Option Focus} → Focused x → Focused y → Focused (choose b x y)
  unfolding choose
  either true h k = h
  either false h k = k

  either_all : (b : Bool) {n : ℕ} {x y : Option FocusAll} → FocusedAll n x → FocusedAll n y → FocusedAll n (choose b x y)
  unfolding choose
  either_all true h k = h
  either_all false h k = k

  mutual
    unfolding focus everywhere label_p

    focused : (p : Plan) (n : ℕ) → Passes T p → Focused (focus n p)
    focused (scan t fs es) n o = either (eqb n 0) (focus_here (scan t fs es) o) not_there
    focused (filter e p) n o =
        let a = and_r _ _ o in
        either (eqb n 0) (focus_here (filter e p) o)
        (either _ (focus_inside (filter e) (λ q h. and_intro (and_l _ _ o) (and_intro (and_l _ _ a) h)) (focused p _ (and_r _ _ a))) not_there)
    focused (project es p) n o =
        let a = and_r _ _ o in
        let b = and_r _ _ a in
        either (eqb n 0) (focus_here (project es p) o)
        (either _ (focus_inside (project es) (λ q h. and_intro (and_l _ _ o) (and_intro (and_l _ _ a) (and_intro (and_l _ _ b) h)))
        (focused p _ (and_r _ _ b)))
        not_there)
    focused (join k l r on g) n o =
        let a = and_r _ _ o in
        let b = and_r _ _ a in
        either (eqb n 0) (focus_here (join k l r on g) o)
        (either _
        (focus_inside (λ q. join k l q on g) (λ q h. and_intro (and_l _ _ o) (and_intro (and_l _ _ a) (and_intro h (and_r _ _ b))))
        (focused r _ (and_l _ _ b)))
        (focus_inside (λ q. join k q r on g) (λ q h. and_intro (and_l _ _ o) (and_intro h b)) (focused l _ (and_l _ _ a))))
    focused (alias i p) n o =
        either (eqb n 0) (focus_here (alias i p) o) (focus_inside (alias i) (λ q h. and_intro (and_l _ _ o) h) (focused p _ (and_r _ _ o)))
    focused (union ps) n o =
        either (eqb n 0) (focus_here (union ps) o) (focus_union ps o (focused_all ps _ (and_r _ _ (and_r _ _ o))))
    focused (distinct p) n o =
        either (eqb n 0) (focus_here (distinct p) o) (focus_inside distinct (λ q h. and_intro (and_l _ _ o) h) (focused p _ (and_r _ _ o)))
    focused (sort f ks p) n o =
        let a = and_r _ _ o in
        either (eqb n 0) (focus_here (sort f ks p) o)
        (either _ (focus_inside (sort f ks) (λ q h. and_intro (and_l _ _ o) (and_intro (and_l _ _ a) h)) (focused p _ (and_r _ _ a))) not_there)
    focused (repartition p) n o =
        either (eqb n 0) (focus_here (repartition p) o) (focus_inside repartition (λ q h. and_intro (and_l _ _ o) h) (focused p _ (and_r _ _ o)))
    focused (limit i j p) n o =
        either (eqb n 0) (focus_here (limit i j p) o) (focus_inside (limit i j) (λ q h. and_intro (and_l _ _ o) h) (focused p _ (and_r _ _ o)))
    focused (aggregate gs ags p) n o =
        let a = and_r _ _ o in
        let b = and_r _ _ a in
        let d = and_r _ _ b in
        either (eqb n 0) (focus_here (aggregate gs ags p) o)
        (either _
        (focus_inside (aggregate gs ags)
        (λ q h. and_intro (and_l _ _ o) (and_intro (and_l _ _ a) (and_intro (and_l _ _ b) (and_intro (and_l _ _ d) h))))
        (focused p _ (and_r _ _ d)))
        not_there)
    focused (window ws p) n o =
        let a = and_r _ _ o in
        let b = and_r _ _ a in
        either (eqb n 0) (focus_here (window ws p) o)
        (either _ (focus_inside (window ws) (λ q h. and_intro (and_l _ _ o) (and_intro (and_l _ _ a) (and_intro (and_l _ _ b) h)))
        (focused p _ (and_r _ _ b)))
        not_there)

    focused_all : (ps : Plans) (n : ℕ) → everywhere_all T ps ≡ true → FocusedAll (count_p ps) (focus_all n ps)
    focused_all pnil n o = not_there_all
    focused_all (pcons p ps) n o =
        either_all _ (focus_later p (and_l _ _ o) (focused_all ps _ (and_r _ _ o))) (focus_first ps (and_r _ _ o) (focused p n (and_l _ _ o)))

  pub focus_kept : (n : ℕ) (p : Plan) (f : Focus) → Passes T p → focus n p ≡ some f → InFocus f
  focus_kept n p f o e = go (focused p n o) e
    where
      go : {x : Option Focus} → Focused x → x ≡ some f → InFocus f
      go not_there e = let z : ◌≡◌ {A = ℕ} 0 1 = cc in absurd (omega arith)
      go (found {f = g} h) e = let i : g ≡ f = cc in rw i at h

  pub rewrite_at_kept : (n : ℕ) (p : Plan) (b : Bool) (q : Plan) → Passes T p → rewrite_at n p ≡ granted b q → Passes T q
  unfolding rewrite_at rewrite_in choose
  rewrite_at_kept n p b q o e = go (focus n p) (λ f i. focus_kept n p f o i) e
    where
      chosen : (f : Focus) → InFocus f → (r : Bool)
          → choose r (granted (rewrite f.plan).transformed (f.back (rewrite f.plan).plan)) (refused 11 n) ≡ granted b q → Passes T q
      chosen f h true e =
          let i : f.back (rewrite f.plan).plan ≡ q = cc in
          rw i at (h.put_back (rewrite f.plan).plan (rewrite_kept T c f.plan h.there))
      chosen f h false e = let z : ◌≡◌ {A = ℕ} 0 1 = cc in absurd (omega arith)

      go : (x : Option Focus) → ((f : Focus) → x ≡ some f → InFocus f) → rewrite_in n x ≡ granted b q → Passes T q
      go none h e = let z : ◌≡◌ {A = ℕ} 0 1 = cc in absurd (omega arith)
      go (some f) h e = chosen f (h f refl) (result_fits f) e
