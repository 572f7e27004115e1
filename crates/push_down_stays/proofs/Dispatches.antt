-- The match on a Filter's input: which arm is asked, and what it answers.
use Prim.Native.Nat.{ℕ}
use mathlib.Core.Path.{◌≡◌, sym, ap, ◌∙◌}
use mathlib.Core.List.{List}
use mathlib.Core.Option.{Option}
use Rattle.image.specs.Subtrees.{Subtree, tree_of}
use Rattle.image.specs.Tree.{Tree}
use Rattle.plan.specs.Kinds.{What, PlanKind, plan, what_of, number_p}
use Rattle.plan.specs.Syntax.{Expr, Field, Entry, AggEntry, WinEntry, Kind, Pair, Plan, Plans}
use Rattle.plan.specs.Syntax.{scan, project, join, alias, union, aggregate, window}
use Rattle.plan.specs.Trees.{label_p}
use Rattle.plan.proofs.Rebuilt.{kind_p}
use Rattle.rewrite.specs.PushDownFilter.{rewrite_filter}
use Rattle.conjuncts.specs.Standing.{StandingP}
use Rattle.writing.proofs.Maps.{plan_is}
use Rattle.push_down_base.specs.Predicates.{Predicate}
use Rattle.push_down_arms.specs.Divided.{OverProjection, OverAggregate, OverWindow}
use Rattle.push_down_arms.specs.Scans.{OverScan}
use Rattle.push_down_join.specs.JoinPlans.{OverJoin}
use Rattle.push_down_base.specs.Arms.{Rests, Written, Answers, OverAlias, OverUnion}
use Rattle.push_down_merge.specs.Found.{OnInput}
use Rattle.push_down_stays.proofs.KindOf.{when_scan, when_project, when_join, when_alias, when_union, when_aggregate, when_window}

-- the number that is read of a tree
pub kind_of : (x : Subtree) {k : ℕ} {q : Plan} → k ≡ (tree_of x).label.kind → StandingP x.image.now x.number q → k ≡ (label_p q).kind
kind_of x e h = e ∙ ap (λ (t : Tree). t.label.kind) (plan_is x h)

-- the number of its kind
pub numbered : {n : ℕ} {w : What} {j : PlanKind} (k : PlanKind) → w ≡ what_of n → w ≡ plan j → j ≡ k → n ≡ number_p k
numbered {n} k told is same = kind_p (record { kind = n; p = 0; q = 0; r = 0; lo = 0; hi = 0 }) k (sym told ∙ is ∙ ap plan same)

-- the arm that is asked
module _ {s : List ℕ} {x : ℕ} {p : Predicate} (r : OnInput s x p) {n : ℕ} (is : n ≡ (label_p r.plan).kind) where
  pub over_scan : n ≡ 32 → OverScan s x p
  over_scan i =
      when_scan (λ q. Rests s x p r.expr q → OverScan s x p) (λ t fs es h. record {
        expr = r.expr;
        table = t;
        fields = fs;
        filters = es;
        rests = h;
      }) r.plan (sym is ∙ i) r.rests

  pub over_project : n ≡ 34 → OverProjection s x p
  over_project i =
      when_project (λ q. Rests s x p r.expr q → OverProjection s x p) (λ es q h. record { expr = r.expr; entries = es; plan = q; rests = h })
      r.plan (sym is ∙ i) r.rests

  pub over_join : n ≡ 35 → OverJoin s x p
  over_join i = when_join (λ q. Rests s x p r.expr q → OverJoin s x p) (λ k l q on f h. record {
    expr = r.expr;
    kind = k;
    lhs = l;
    rhs = q;
    keys = on;
    condition = f;
    rests = h;
  }) r.plan (sym is ∙ i) r.rests

  pub over_alias : n ≡ 36 → OverAlias s x p
  over_alias i =
      when_alias (λ q. Rests s x p r.expr q → OverAlias s x p) (λ i q h. record { expr = r.expr; qualifier = i; plan = q; rests = h }) r.plan (sym is
      ∙ i) r.rests

  pub over_union : n ≡ 37 → OverUnion s x p
  over_union i =
      when_union (λ q. Rests s x p r.expr q → OverUnion s x p) (λ ps h. record { expr = r.expr; inputs = ps; rests = h }) r.plan (sym is ∙
      i) r.rests

  pub over_aggregate : n ≡ 42 → OverAggregate s x p
  over_aggregate i =
      when_aggregate (λ q. Rests s x p r.expr q → OverAggregate s x p) (λ gs ags q h. record {
        expr = r.expr;
        groups = gs;
        entries = ags;
        plan = q;
        rests = h;
      }) r.plan (sym is ∙ i) r.rests

  pub over_window : n ≡ 43 → OverWindow s x p
  over_window i =
      when_window (λ q. Rests s x p r.expr q → OverWindow s x p)
      (λ ws q h. record { expr = r.expr; entries = ws; plan = q; rests = h }) r.plan (sym is ∙ i) r.rests

-- what it answers
module _ {s before after : List ℕ} {x at level : ℕ} {p : Predicate} {r : Written} {n : ℕ} where
  pub by_scan : ((e : Expr) (t : ℕ) (fs : List Field) (es : List Expr) → Rests s x p e (scan t fs es) → Answers before after at level r
      (rewrite_filter e (scan t fs es))) → n ≡ 32
      → (e : Expr) (q : Plan) → n ≡ (label_p q).kind → Rests s x p e q → Answers before after at level r (rewrite_filter e q)
  by_scan f i e q k h = when_scan (λ q. Rests s x p e q → Answers before after at level r (rewrite_filter e q)) (f e) q (sym k ∙ i) h

  pub by_project : ((e : Expr) (es : List Entry) (q : Plan) → Rests s x p e (project es q) → Answers before after at level r (rewrite_filter e
      (project es q))) → n ≡ 34
      → (e : Expr) (q : Plan) → n ≡ (label_p q).kind → Rests s x p e q → Answers before after at level r (rewrite_filter e q)
  by_project f i e q k h = when_project (λ q. Rests s x p e q → Answers before after at level r (rewrite_filter e q)) (f e) q (sym k ∙ i) h

  pub by_join : ((e : Expr) (k : Kind) (l q : Plan) (on : List Pair) (f : Option Expr) → Rests s x p e (join k l q on f) → Answers before after
      at level r (rewrite_filter e (join k l q on f))) → n ≡ 35
      → (e : Expr) (q : Plan) → n ≡ (label_p q).kind → Rests s x p e q → Answers before after at level r (rewrite_filter e q)
  by_join f i e q k h = when_join (λ q. Rests s x p e q → Answers before after at level r (rewrite_filter e q)) (f e) q (sym k ∙ i) h

  pub by_alias : ((e : Expr) (i : ℕ) (q : Plan) → Rests s x p e (alias i q) → Answers before after at level r (rewrite_filter e (alias i q))) → n ≡ 36
      → (e : Expr) (q : Plan) → n ≡ (label_p q).kind → Rests s x p e q → Answers before after at level r (rewrite_filter e q)
  by_alias f i e q k h = when_alias (λ q. Rests s x p e q → Answers before after at level r (rewrite_filter e q)) (f e) q (sym k ∙ i) h

  pub by_union : ((e : Expr) (ps : Plans) → Rests s x p e (union ps) → Answers before after at level r (rewrite_filter e (union ps))) → n ≡ 37
      → (e : Expr) (q : Plan) → n ≡ (label_p q).kind → Rests s x p e q → Answers before after at level r (rewrite_filter e q)
  by_union f i e q k h = when_union (λ q. Rests s x p e q → Answers before after at level r (rewrite_filter e q)) (f e) q (sym k ∙ i) h

  pub by_aggregate : ((e : Expr) (gs : List Entry) (ags : List AggEntry) (q : Plan) → Rests s x p e (aggregate gs ags q) → Answers before after
      at level r (rewrite_filter e (aggregate gs ags q))) → n ≡ 42
      → (e : Expr) (q : Plan) → n ≡ (label_p q).kind → Rests s x p e q → Answers before after at level r (rewrite_filter e q)
  by_aggregate f i e q k h = when_aggregate (λ q. Rests s x p e q → Answers before after at level r (rewrite_filter e q)) (f e) q (sym k ∙ i) h

  pub by_window : ((e : Expr) (ws : List WinEntry) (q : Plan) → Rests s x p e (window ws q) → Answers before after at level r (rewrite_filter e
      (window ws q))) → n ≡ 43
      → (e : Expr) (q : Plan) → n ≡ (label_p q).kind → Rests s x p e q → Answers before after at level r (rewrite_filter e q)
  by_window f i e q k h = when_window (λ q. Rests s x p e q → Answers before after at level r (rewrite_filter e q)) (f e) q (sym k ∙ i) h
