-- If a test of every record passes of a plan, it passes of what the rewrite makes of it.
use Prim.Native.Nat.{ℕ, suc}
use mathlib.Core.Path.{◌≡◌, refl, ap, ◌∙◌}
use mathlib.Core.Bool.{Bool, true, false, not}
use mathlib.Core.List.{List, [], ◌++◌, map}
use mathlib.Core.Option.{Option, none, some}
use Rattle.plan.specs.Lists.{choose, all, All, anil, acons}
use Rattle.plan.proofs.Lists.{and_l, and_r, and_intro, All-map, All-append, All-keep, All-mapped}
use Rattle.plan.specs.Syntax.{Name, Expr, Field, Entry, Pair, AggEntry, WinEntry, Kind, inner, left, right, full, left_semi, right_semi}
use Rattle.plan.specs.Syntax.{left_anti, right_anti, Plan, scan, filter, project, join, alias, union, distinct, sort, repartition, limit}
use Rattle.plan.specs.Syntax.{aggregate, window, Plans, pnil, pcons}
use Rattle.plan.specs.Schema.{schema, schema_first, sides, requalify, has}
use Rattle.plan.specs.Trees.{label_p}
use Rattle.rewrite.specs.Utils.{replace_cols, split_conjunction, split_conjunction?, conjoin, conjunction, with_filters, unique, is_empty}
use Rattle.rewrite.specs.PushDownFilter.{transformed_yes, transformed_no, pick, stay, move, pushable, supported_filters}
use Rattle.rewrite.specs.PushDownFilter.{unsupported_filters, volatile_filters, renamed, filter_each, left_preserved, right_preserved}
use Rattle.rewrite.specs.PushDownFilter.{on_left_preserved, on_right_preserved, is_inner, push_to, push_not, if_list, unpushed}
use Rattle.rewrite.specs.PushDownFilter.{keep_predicates, join_conditions, on_filter_join_conditions, inferred_join_predicates, left_push}
use Rattle.rewrite.specs.PushDownFilter.{right_push, push_down_all_join, push_down_join, rewrite_projection, rewrite_scan}
use Rattle.rewrite.specs.PushDownFilter.{rewrite_aggregate, rewrite_window, simplify_filter, merged, simplify_merged, resume}
use Rattle.rewrite.specs.PushDownFilter.{rewrite_filter, rewrite}
use Rattle.rewrite.proofs.References.{all_true, true_all, unique_all}
use Rattle.preservation.proofs.Everywhere.{Tests, Closed, count_p, good, good?, good_field, good_entry, good_pair, good_agg, good_win}
use Rattle.preservation.proofs.Everywhere.{everywhere, everywhere_all}
use Rattle.preservation.proofs.ExprsKept.{Good, Named, all_replaced_good, pick_good, renamed_good, inferred_good, if_good}
use Rattle.preservation.proofs.ExprsKept.{split_good, split?_good, conjoin_good, conjunction_good, simplify_filter_good}
use Rattle.preservation.proofs.ExprsKept.{clauses_good}

module _ (T : Tests) where
  abbrev pub Passes : Plan → Type 0
  Passes p = everywhere T p ≡ true

  sides_named : (k : Kind) {s t : List Name} → All (Named T) s → All (Named T) t → All (Named T) (sides k s t)
  sides_named inner h i = All-append h i
  sides_named left h i = All-append h i
  sides_named right h i = All-append h i
  sides_named full h i = All-append h i
  sides_named left_semi h i = h
  sides_named right_semi h i = i
  sides_named left_anti h i = h
  sides_named right_anti h i = i

module _ (T : Tests) (c : Closed T) where
  -- ---- the names of a schema are names that a column may have

  entries_named : (es : List Entry) → all (good_entry T) es ≡ true → All (Named T) (map (λ (e : Entry). e.name) es)
  entries_named es h = All-mapped (λ (e : Entry). e.name) (All-map (λ e k. c.of_entry e (and_l _ _ k)) (all_true (good_entry T) es h))

  mutual
    unfolding schema everywhere

    schema_named : (p : Plan) → Passes T p → All (Named T) (schema p)
    schema_named (scan t fs es) h = All-mapped (λ (f : Field). f.name) (All-map c.of_field (all_true (good_field T) fs (and_l _ _ (and_r _ _ h))))
    schema_named (filter e p) h = schema_named p (and_r _ _ (and_r _ _ h))
    schema_named (project es p) h = entries_named es (and_l _ _ (and_r _ _ (and_r _ _ h)))
    schema_named (join k l r on f) h =
        let i = and_r _ _ h in sides_named T k (schema_named l (and_l _ _ i)) (schema_named r (and_l _ _ (and_r _ _ i)))
    schema_named (alias q p) h = All-mapped (requalify q) (All-map (λ x k. c.of_alias q p x (and_l _ _ h) k) (schema_named p (and_r _ _ h)))
    schema_named (union ps) h = schema_first_named ps (and_r _ _ (and_r _ _ h))
    schema_named (distinct p) h = schema_named p (and_r _ _ h)
    schema_named (sort f ks p) h = schema_named p (and_r _ _ (and_r _ _ h))
    schema_named (repartition p) h = schema_named p (and_r _ _ h)
    schema_named (limit n k p) h = schema_named p (and_r _ _ h)
    schema_named (aggregate gs ags p) h =
        let i = and_r _ _ (and_r _ _ h) in
        All-append (entries_named gs (and_l _ _ i))
        (All-mapped (λ (a : AggEntry). a.name) (All-map (λ a k. c.of_agg a (and_l _ _ k)) (all_true (good_agg T) ags (and_l _ _ (and_r _ _ i)))))
    schema_named (window ws p) h =
        let i = and_r _ _ (and_r _ _ h) in
        All-append (schema_named p (and_r _ _ i))
        (All-mapped (λ (w : WinEntry). w.name) (All-map (λ w k. c.of_win w (and_l _ _ k)) (all_true (good_win T) ws (and_l _ _ i))))

    schema_first_named : (ps : Plans) → everywhere_all T ps ≡ true → All (Named T) (schema_first ps)
    schema_first_named pnil h = anil
    schema_first_named (pcons p ps) h = schema_named p (and_l _ _ h)

  -- ---- Filters over a plan

  with_filters_kept : {es : List Expr} (p : Plan) → All (Good T) es → Passes T p → Passes T (with_filters es p)
  unfolding with_filters everywhere
  with_filters_kept p anil o = o
  with_filters_kept p (acons {x = e} {xs = es} h hs) o = and_intro (c.filters (conjoin e es) p) (and_intro (conjoin_good T c e es h hs) o)

  filter_kept : (e : Expr) (p : Plan) → Good T e → Passes T p → Passes T (filter e p)
  unfolding everywhere
  filter_kept e p h o = and_intro (c.filters e p) (and_intro h o)

  -- ---- the lists of a join

  module _ (k : Kind) (s t : List Name) (on : List Pair) (P G : List Expr) (i : all (good_pair T) on ≡ true) (h : All (Good T) P)
      (g : All (Good T) G) where
    unpushed_good : All (Good T) (unpushed k s t on P G)
    unfolding push_not
    unpushed_good = All-keep _ (All-keep _ h)

    on_filter_good : All (Good T) (on_filter_join_conditions k s t on P G)
    unfolding push_not
    on_filter_good = All-keep _ (All-keep _ g)

    keep_good : All (Good T) (keep_predicates k s t on P G)
    keep_good = if_good T (not (is_inner k)) unpushed_good

    conditions_good : All (Good T) (join_conditions k s t on P G)
    conditions_good = if_good T (is_inner k) unpushed_good

    -- the clauses out of what moves to no side
    sources_good : (p q : Bool)
        → All (Good T) (if_list p (keep_predicates k s t on P G ++ join_conditions k s t on P G) ++ if_list q
        (on_filter_join_conditions k s t on P G))
    sources_good p q = All-append (if_good T p (All-append keep_good conditions_good)) (if_good T q on_filter_good)

    inferred : All (Good T) (inferred_join_predicates k s t on P G)
    inferred = if_good T (is_inner k) (inferred_good T on i (All-append h g))

    left_good : All (Good T) (left_push k s t on P G)
    unfolding push_to
    left_good =
        All-append (All-keep _ h)
        (All-append (All-keep _ inferred)
        (All-append (All-keep _ g) (clauses_good T c (has s) (sources_good (left_preserved k) (on_left_preserved k)))))

    right_good : All (Good T) (right_push k s t on P G)
    unfolding push_to push_not
    right_good =
        All-append (All-keep _ (All-keep _ h))
        (All-append (All-keep _ (All-keep _ inferred))
        (All-append (All-keep _ (All-keep _ g)) (clauses_good T c (has t) (sources_good (right_preserved k) (on_right_preserved k)))))

  join_kept : (k : Kind) (l r : Plan) (on : List Pair) (f : Option Expr) (P : List Expr) → All (Good T) P → Passes T (join k l r on f)
      → Passes T (push_down_join k l r on f P).plan
  unfolding push_down_all_join everywhere label_p
  join_kept k l r on f P h o =
      let a = and_r _ _ o in
      let b = and_r _ _ a in
      let i = and_l _ _ (and_r _ _ b) in
      let G = split_conjunction? f in
      let g = split?_good T f (and_r _ _ (and_r _ _ b)) in
      let s = schema l in
      let t = schema r in
      with_filters_kept _ (keep_good k s t on P G i h g)
      (and_intro (and_l _ _ o)
      (and_intro (with_filters_kept l (left_good k s t on P G i h g) (and_l _ _ a))
      (and_intro (with_filters_kept r (right_good k s t on P G i h g) (and_l _ _ b))
      (and_intro i (conjunction_good T c (All-append (conditions_good k s t on P G i h g) (on_filter_good k s t on P G i h g)))))))

  -- ---- the other arms

  scan_kept : (e : Expr) (t : ℕ) (fs : List Field) (es : List Expr) → Good T e → Passes T (scan t fs es) → Passes T (rewrite_scan e t fs es).plan
  unfolding rewrite_scan choose everywhere label_p
  scan_kept e t fs es h o = go (is_empty (supported_filters fs e))
    where
      g : All (Good T) (split_conjunction e)
      g = split_good T e h

      go : (b : Bool)
          → Passes T (choose b (transformed_no (filter e (scan t fs es)))
          (transformed_yes (with_filters (unsupported_filters fs e ++ volatile_filters e) (scan t fs (unique (es ++ supported_filters fs e)))))).plan
      go true = filter_kept e (scan t fs es) h o
      go false = with_filters_kept _ (All-append (All-keep _ (All-keep _ g)) (All-keep _ g))
          (and_intro (and_l _ _ o) (and_intro (and_l _ _ (and_r _ _ o))
          (true_all (good T) (unique_all (All-append (all_true (good T) es (and_r _ _ (and_r _ _ o))) (All-keep _ (All-keep _ g)))))))

  projection_kept : (e : Expr) (es : List Entry) (p : Plan) → Good T e → Passes T (project es p) → Passes T (rewrite_projection e es p).plan
  unfolding rewrite_projection choose everywhere label_p
  projection_kept e es p h o = go (is_empty (move (pushable es) e))
    where
      g : All (Good T) (split_conjunction e)
      g = split_good T e h

      go : (b : Bool)
          → Passes T (choose b (transformed_no (filter e (project es p)))
          (transformed_yes (with_filters (stay (pushable es) e)
          (project es (with_filters (map (replace_cols (pick es)) (move (pushable es) e)) p))))).plan
      go true = filter_kept e (project es p) h o
      go false =
          let a = and_r _ _ o in
          let b = and_r _ _ a in
          with_filters_kept _ (All-keep _ g)
          (and_intro (and_l _ _ o) (and_intro (and_l _ _ a) (and_intro (and_l _ _ b)
          (with_filters_kept p (all_replaced_good T (pick es) (pick_good T es (and_l _ _ b)) (All-keep _ g)) (and_r _ _ b)))))

  aggregate_kept : (e : Expr) (gs : List Entry) (ags : List AggEntry) (p : Plan) → Good T e → Passes T (aggregate gs ags p)
      → Passes T (rewrite_aggregate e gs ags p).plan
  unfolding rewrite_aggregate everywhere label_p
  aggregate_kept e gs ags p h o =
      let g = split_good T e h in
      let a = and_r _ _ o in
      let b = and_r _ _ a in
      let d = and_r _ _ b in
      with_filters_kept _ (All-keep _ g)
      (and_intro (and_l _ _ o) (and_intro (and_l _ _ a) (and_intro (and_l _ _ b) (and_intro (and_l _ _ d)
      (with_filters_kept p (all_replaced_good T (pick gs) (pick_good T gs (and_l _ _ b)) (All-keep _ g)) (and_r _ _ d))))))

  window_kept : (e : Expr) (ws : List WinEntry) (p : Plan) → Good T e → Passes T (window ws p) → Passes T (rewrite_window e ws p).plan
  unfolding rewrite_window everywhere label_p
  window_kept e ws p h o =
      let g = split_good T e h in
      let a = and_r _ _ o in
      let b = and_r _ _ a in
      with_filters_kept _ (All-keep _ g)
      (and_intro (and_l _ _ o) (and_intro (and_l _ _ a) (and_intro (and_l _ _ b) (with_filters_kept p (All-keep _ g) (and_r _ _ b)))))

  each_count : (s : List Name) (e : Expr) (ps : Plans) → count_p (filter_each s e ps) ≡ count_p ps
  unfolding filter_each
  each_count s e pnil = refl
  each_count s e (pcons p ps) = ap suc (each_count s e ps)

  each_kept : (s : List Name) (e : Expr) (ps : Plans) → Good T e → everywhere_all T ps ≡ true → everywhere_all T (filter_each s e ps) ≡ true
  unfolding filter_each everywhere
  each_kept s e pnil h o = refl
  each_kept s e (pcons p ps) h o =
      let a = and_l _ _ o in
      and_intro (filter_kept (renamed s (schema p) e) p (renamed_good T s (schema_named p a) e h) a) (each_kept s e ps h (and_r _ _ o))

  -- ---- the rewrite

  resume_kept : (p : Plan) (x : Option Expr) → good? T x ≡ true → Passes T p → ((y : Expr) → Good T y → Passes T (rewrite_filter y p).plan)
      → Passes T (resume x (λ y. rewrite_filter y p) p).plan
  resume_kept p none h o f = o
  resume_kept p (some y) h o f = f y h

  simplify_merged_good : (o : Option Expr) → good? T o ≡ true → good? T (simplify_merged o) ≡ true
  simplify_merged_good none h = refl
  simplify_merged_good (some e) h = simplify_filter_good T c e h

  merged_good : (e b : Expr) → Good T e → Good T b → All (Good T) (merged e b)
  unfolding merged
  merged_good e b h k = unique_all (All-append (split_good T b k) (split_good T e h))

  rewrite_filter_kept : (p : Plan) (e : Expr) → Good T e → Passes T p → Passes T (rewrite_filter e p).plan
  unfolding rewrite_filter everywhere label_p
  rewrite_filter_kept (scan t fs es) e h o = scan_kept e t fs es h o
  rewrite_filter_kept (filter b p) e h o =
      let a = and_r _ _ o in
      resume_kept p (simplify_merged (conjunction (merged e b)))
      (simplify_merged_good (conjunction (merged e b)) (conjunction_good T c (merged_good e b h (and_l _ _ a)))) (and_r _ _ a)
      (λ y k. rewrite_filter_kept p y k (and_r _ _ a))
  rewrite_filter_kept (project es p) e h o = projection_kept e es p h o
  rewrite_filter_kept (join k l r on f) e h o = join_kept k l r on f (split_conjunction e) (split_good T e h) o
  rewrite_filter_kept (alias q p) e h o =
      let a = and_r _ _ o in
      let s = map (requalify q) (schema p) in
      and_intro (and_l _ _ o) (filter_kept (renamed s (schema p) e) p (renamed_good T s (schema_named p a) e h) a)
  rewrite_filter_kept (union ps) e h o =
      let a = and_r _ _ o in
      and_intro (and_l _ _ o)
      (and_intro (ap (T.least 2) (each_count (schema_first ps) e ps) ∙ and_l _ _ a) (each_kept (schema_first ps) e ps h (and_r _ _ a)))
  rewrite_filter_kept (distinct p) e h o = and_intro (and_l _ _ o) (filter_kept e p h (and_r _ _ o))
  rewrite_filter_kept (sort none ks p) e h o = let a = and_r _ _ o in and_intro (and_l _ _ o)
      (and_intro (and_l _ _ a) (filter_kept e p h (and_r _ _ a)))
  rewrite_filter_kept (sort (some n) ks p) e h o = filter_kept e (sort (some n) ks p) h o
  rewrite_filter_kept (repartition p) e h o = and_intro (and_l _ _ o) (filter_kept e p h (and_r _ _ o))
  rewrite_filter_kept (limit n k p) e h o = filter_kept e (limit n k p) h o
  rewrite_filter_kept (aggregate gs ags p) e h o = aggregate_kept e gs ags p h o
  rewrite_filter_kept (window ws p) e h o = window_kept e ws p h o

  pub rewrite_kept : (p : Plan) → Passes T p → Passes T (rewrite p).plan
  unfolding rewrite everywhere
  rewrite_kept (scan t fs es) o = o
  rewrite_kept (filter e p) o =
      let a = and_r _ _ o in
      resume_kept p (simplify_filter e) (simplify_filter_good T c e (and_l _ _ a)) (and_r _ _ a) (λ y k. rewrite_filter_kept p y k (and_r _ _ a))
  rewrite_kept (project es p) o = o
  rewrite_kept (join k l r on f) o = join_kept k l r on f [] anil o
  rewrite_kept (alias q p) o = o
  rewrite_kept (union ps) o = o
  rewrite_kept (distinct p) o = o
  rewrite_kept (sort f ks p) o = o
  rewrite_kept (repartition p) o = o
  rewrite_kept (limit n k p) o = o
  rewrite_kept (aggregate gs ags p) o = o
  rewrite_kept (window ws p) o = o
