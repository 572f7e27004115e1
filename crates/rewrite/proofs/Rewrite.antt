-- The rewrite of a plan keeps its schema and its rows, and leaves a plan that again obeys the name rules and the type rules.
use Prim.Native.Nat.{ℕ}
use mathlib.Core.Path.{◌≡◌, refl, sym, ap, ap₂, ◌∙◌, subst}
use mathlib.Core.Bool.{Bool, true, false, ◌||◌}
use mathlib.Core.List.{List, [], ◌∷◌, ◌++◌, map, append-nil}
use mathlib.Core.Option.{Option, none, some}
use lib.ListN.{length, length-map}
use Rattle.plan.specs.Lists.{◌&◌, choose, any, put, keep, all, All, anil, acons}
use Rattle.plan.proofs.Lists.{and_assoc, and_comm, and_l, and_r, and_intro, All-map, All-append, All-keep, all_of}
use Rattle.plan.proofs.Lists.{keep_all, keep_cong, keep_keep, all_parts, all_append}
use Rattle.plan.specs.Syntax.{Name, Expr, Field, Entry, Pair, AggEntry, WinEntry, Kind, Plan, scan, filter, project, join, alias, union}
use Rattle.plan.specs.Syntax.{distinct, sort, repartition, limit, aggregate, window, Plans}
use Rattle.meaning.specs.Meaning.{World, Row, look, sat, sats, sat?, rows, grouped}
use Rattle.meaning.specs.Tables.{TablesFit}
use Rattle.meaning.proofs.Tables.{fit_left, fit_right, fit_same}
use Rattle.plan.specs.Schema.{same, schema, schema_first, requalify, sides, has}
use Rattle.plan.proofs.Names.{same_eq}
use Rattle.rewrite.specs.Utils.{is_empty, is_volatile_expr, replace_cols, split_conjunction, split_conjunction?, conjoin, conjunction}
use Rattle.rewrite.specs.Utils.{with_filters, unique}
use Rattle.rewrite.specs.PushDownFilter.{Transformed, pick, names, stay, move, pushable, in_groups, in_partitions, supports_pushdown}
use Rattle.rewrite.specs.PushDownFilter.{volatile_filters, non_volatile_filters, supported_filters, unsupported_filters, renamed}
use Rattle.rewrite.specs.PushDownFilter.{filter_each, left_push, right_push, join_conditions, on_filter_join_conditions}
use Rattle.rewrite.specs.PushDownFilter.{push_down_all_join, rewrite_projection, rewrite_scan, rewrite_aggregate, rewrite_window}
use Rattle.rewrite.specs.PushDownFilter.{simplify_filter, simplify_merged, merged, resume, rewrite_filter, rewrite}
use Rattle.rewrite.proofs.Exprs.{on_cols_mono, all_split, filtered_rows, filtered_schema, split_rows}
use Rattle.rewrite.proofs.Merge.{dedup_all, merge_rows}
use Rattle.rewrite.proofs.Project.{split_cols, project_rows}
use Rattle.rewrite.proofs.Places.{union_rows, union_schema, alias_rows}
use Rattle.rewrite.proofs.Sort.{sort_rows}
use Rattle.rewrite.proofs.Groups.{passes, distinct_rows, windowed_kept, with_aggs_kept}
use Rattle.rewrite.proofs.Join.{Over}
use Rattle.rewrite.proofs.PushJoin.{push_join_rows, split?_rows, over_left, over_right}
use Rattle.acceptance.proofs.NamesRule.{names_nodup}
use Rattle.acceptance.specs.NamesRule.{reads, reads?, ok, ok_all, rule}
use Rattle.rewrite.proofs.Ok.{rows_wide}
use Rattle.rewrite.proofs.SimplifyFilter.{simplify_filter_true, simplify_filter_reads, conjunction_reads}
use Rattle.acceptance.proofs.TypesRule.{boolean, boolean?, typed}
use Rattle.plan.specs.Types.{scans, types, field_types}
use Rattle.rewrite.proofs.TypeLaws.{Bools, bools_split, conjunction_boolean, simplify_filter_boolean}
use Rattle.rewrite.proofs.TypesKept.{types_filtered, scans_filtered, scan_arm_typed, project_arm_typed, alias_arm_typed, each_types}
use Rattle.rewrite.proofs.TypesKept.{each_scans, union_arm_typed, aggregate_arm_typed, window_arm_typed, join_arm_typed}
use Rattle.rewrite.proofs.References.{all_true, true_all, unique_all, unique_over, picked_over, renamed_reads, with_filters_ok}
use Rattle.rewrite.proofs.References.{filter_each_ok, split?_over, keep_over, conditions_over, on_conditions_over}

-- q may stand where p stands: same fields, same scans, and the same rows, whatever the functions mean, for tables that fit
pub record Keeps (q p : Plan) : Type 0 where
  pub schemas : schema q ≡ schema p
  pub row_lists : (W : World) → TablesFit W p → rows W q ≡ rows W p
  pub well : ok q ≡ true
  pub types_same : types q ≡ types p
  pub scans_same : scans q ≡ scans p
  pub typed_again : typed p ≡ true → typed q ≡ true

pub keeps_self : {p : Plan} → ok p ≡ true → Keeps p p
keeps_self o = record {
  schemas = refl;
  row_lists = λ W d. refl;
  well = o;
  types_same = refl;
  scans_same = refl;
  typed_again = λ y. y;
}

-- what may stand in x's place may stand in y's, if y has x's fields, scans and rows
keeps_for : {q x y : Plan} → schema x ≡ schema y → types x ≡ types y → scans x ≡ scans y
    → ((W : World) → rows W x ≡ rows W y) → (typed y ≡ true → typed x ≡ true) → Keeps q x → Keeps q y
keeps_for s t c f z k = record {
  schemas = k.schemas ∙ s;
  row_lists = λ W d. k.row_lists W (fit_same W c d) ∙ f W;
  well = k.well;
  types_same = k.types_same ∙ t;
  scans_same = k.scans_same ∙ c;
  typed_again = λ y. k.typed_again (z y);
}

either_keeps : (b : Bool) (x y : Transformed) {p : Plan} → Keeps x.plan p → Keeps y.plan p → Keeps (choose b x y).plan p
unfolding choose
either_keeps true x y h k = h
either_keeps false x y h k = k

-- ---- the name rules hold again over an input of the same schema, kind by kind

pub filter_ok : (e : Expr) (q p : Plan) → schema q ≡ schema p → ok q ≡ true
    → ok (filter e p) ≡ true → ok (filter e q) ≡ true
unfolding rule
filter_ok e q p s w o = and_intro (rw s (and_l _ _ o)) w

pub project_ok : (es : List Entry) (q p : Plan) → schema q ≡ schema p → ok q ≡ true
    → ok (project es p) ≡ true → ok (project es q) ≡ true
unfolding rule
project_ok es q p s w o = and_intro (and_l _ _ o) (and_intro (rw s (and_l _ _ (and_r _ _ o))) w)

-- over two inputs, and with another filter
pub join_ok : (k : Kind) (m l s r : Plan) (on : List Pair) (f g : Option Expr)
    → schema m ≡ schema l → schema s ≡ schema r → ok m ≡ true → ok s ≡ true
    → reads? (schema l ++ schema r) g ≡ true
    → ok (join k l r on f) ≡ true → ok (join k m s on g) ≡ true
unfolding rule
join_ok k m l s r on f g e i w v h o =
    and_intro (rw (e, i) (and_l _ _ o))
    (and_intro (rw (e, i) (and_l _ _ (and_r _ _ o))) (and_intro (rw (e, i) h) (and_intro w v)))

pub aggregate_ok : (gs : List Entry) (ags : List AggEntry) (q p : Plan) → schema q ≡ schema p → ok q ≡ true
    → ok (aggregate gs ags p) ≡ true → ok (aggregate gs ags q) ≡ true
unfolding rule
aggregate_ok gs ags q p s w o =
    let i = and_r _ _ o in
    and_intro (and_l _ _ o) (and_intro (rw s (and_l _ _ i)) (and_intro (rw s (and_l _ _ (and_r _ _ i))) w))

pub window_ok : (ws : List WinEntry) (q p : Plan) → schema q ≡ schema p → ok q ≡ true
    → ok (window ws p) ≡ true → ok (window ws q) ≡ true
unfolding rule
window_ok ws q p s w o = and_intro (rw s (and_l _ _ o)) (and_intro (rw s (and_l _ _ (and_r _ _ o))) w)

-- ---- the conjuncts that move and those that stay say together what the predicate says

two_parts : (W : World) (s : List Name) (f : Expr → Bool) (e : Expr) (r : Row)
    → sats W s (move f e) r & sats W s (stay f e) r ≡ sat W s e r
two_parts W s f e r = all_parts _ f (split_conjunction e) ∙ all_split W (look s r) e

rejoin : (W : World) (s : List Name) (f : Expr → Bool) (e : Expr) (rs : List Row)
    → keep (sats W s (stay f e)) (keep (sats W s (move f e)) rs) ≡ keep (sat W s e) rs
rejoin W s f e rs = keep_keep _ _ rs ∙ keep_cong _ _ (all_of (two_parts W s f e) rs)

-- any part of a predicate's conjuncts reads what the predicate reads: so those that stay, and those that move
part_over : (s : List Name) (f : Expr → Bool) (e : Expr) → reads s e ≡ true → Over s (keep f (split_conjunction e))
part_over s f e h = All-keep f (split_cols (has s) e h)

-- ---- TableScan: it takes what has a column, reads marked columns only, and is not volatile
--
--     Filter e                      Filter (what it does not take, volatile ones last)
--       TableScan t, es    becomes    TableScan t, es and what it takes, each once

module _ (e : Expr) (t : ℕ) (fs : List Field) (es : List Expr) where
  scan_point : (W : World) (s : List Name) (r : Row)
      → sats W s (unique (es ++ supported_filters fs e)) r & sats W s (unsupported_filters fs e ++ volatile_filters e) r
      ≡ sats W s es r & sat W s e r
  scan_point W s r =
      ap₂ ◌&◌ (dedup_all _ (es ++ supported_filters fs e) ∙ all_append _ es _) (all_append _ (unsupported_filters fs e) _)
      ∙ and_assoc _ _ _
      ∙ ap (sats W s es r &◌)
      (sym (and_assoc _ _ _)
      ∙ ap (◌& sats W s (volatile_filters e) r) (all_parts _ (supports_pushdown fs) (non_volatile_filters e))
      ∙ volatile_last ∙ all_split W (look s r) e)
    where
      volatile_last : sats W s (non_volatile_filters e) r & sats W s (volatile_filters e) r ≡ sats W s (split_conjunction e) r
      volatile_last = and_comm _ _ ∙ all_parts _ is_volatile_expr (split_conjunction e)

  scan_rows : (W : World)
      → rows W (with_filters (unsupported_filters fs e ++ volatile_filters e) (scan t fs (unique (es ++ supported_filters fs e))))
      ≡ rows W (filter e (scan t fs es))
  unfolding rows schema
  scan_rows W =
      filtered_rows W _ _ ∙ keep_keep _ _ _
      ∙ keep_cong _ _ (all_of (scan_point W (map (λ (f : Field). f.name) fs)) _)
      ∙ sym (keep_keep _ _ _)

  scan_keeps : reads (schema (scan t fs es)) e ≡ true → ok (scan t fs es) ≡ true
      → Keeps (rewrite_scan e t fs es).plan (filter e (scan t fs es))
  unfolding rewrite_scan rule schema types scans
  scan_keeps h o = either_keeps (is_empty (supported_filters fs e)) _ _ (keeps_self (and_intro h o)) (record {
    schemas = filtered_schema _ _;
    row_lists = λ W d. scan_rows W;
    well = with_filters_ok (scan t fs (unique (es ++ supported_filters fs e)))
        (All-append (All-keep _ (All-keep _ cs)) (All-keep _ cs))
        (and_intro (and_l _ _ o) (true_all _ (unique_over _ (All-append (all_true _ es (and_r _ _ o)) (All-keep _ (All-keep _ cs))))));
    types_same = types_filtered _ _;
    scans_same = scans_filtered _ _;
    typed_again = scan_arm_typed e t fs es;
  })
    where
      cs : Over (map (λ (f : Field). f.name) fs) (split_conjunction e)
      cs = split_cols (has (map (λ (f : Field). f.name) fs)) e h

-- ---- Projection: what uses only entries that may be repeated below moves, each column replaced by its entry's expression
--
--     Filter e                    Filter (what stays)
--       Projection es    becomes    Projection es
--         p                           Filter (what moves, replaced)
--                                       p

project_keeps : (e : Expr) (es : List Entry) (p : Plan) → reads (names es) e ≡ true → ok (project es p) ≡ true
    → Keeps (rewrite_projection e es p).plan (filter e (project es p))
unfolding rewrite_projection rule schema types scans
project_keeps e es p h o = either_keeps (is_empty (move (pushable es) e)) _ _ (keeps_self (and_intro h o)) (record {
  schemas = filtered_schema _ _;
  row_lists = λ W d. project_rows W es p e h (pushable es);
  well = with_filters_ok (project es (with_filters down p)) (part_over (names es) _ e h)
      (project_ok es (with_filters down p) p (filtered_schema down p)
      (with_filters_ok p (picked_over (schema p) es (and_l _ _ (and_r _ _ o)) (part_over (names es) _ e h)) (and_r _ _ (and_r _ _ o)))
      o);
  types_same = simp (types_filtered, filtered_schema);
  scans_same = simp scans_filtered;
  typed_again = project_arm_typed e es p h;
})
  where
    down : List Expr
    down = map (replace_cols (pick es)) (move (pushable es) e)

-- ---- Join under conjuncts P: to a side goes what reads that side only and may pass, by the kind of join
--
--     Filter P                        Filter (what stays)
--       Join, filter f      becomes     Join, filter (P's conditions, then what stays of f)
--         l                               Filter (left_push)
--         r                                 l
--                                         Filter (right_push)
--                                           r

module _ (k : Kind) (l r : Plan) (on : List Pair) (f : Option Expr)
    (o : ok (join k l r on f) ≡ true)
    (P : List Expr) (h : Over (sides k (schema l) (schema r)) P) where
  sides_ok : ok l & ok r ≡ true
  unfolding rule
  sides_ok = and_r _ _ (and_r _ _ (and_r _ _ o))

  join_rows : (W : World) → TablesFit W (join k l r on f)
      → rows W (push_down_all_join k l r on P (split_conjunction? f)).plan ≡ rows W (with_filters P (join k l r on f))
  unfolding rule schema scans
  join_rows W d =
      sym (push_join_rows W l r on
      (names_nodup _ (and_l _ _ o))
      (All-map (λ k t. (and_l _ _ t, and_r _ _ t)) (all_true _ on (and_l _ _ (and_r _ _ o))))
      (rows_wide W l (and_l _ _ sides_ok) (fit_left W (scans l) (scans r) d))
      (rows_wide W r (and_r _ _ sides_ok) (fit_right W (scans l) (scans r) d))
      P (split_conjunction? f) k h)
      ∙ filtered_rows W P _ ∙ ap (keep _) (split?_rows W k l r on f) ∙ sym (filtered_rows W P (join k l r on f))

  -- in the place of a plan T that is the join under P
  join_keeps : (T : Plan)
      → schema (join k l r on f) ≡ schema T
      → ((W : World) → rows W (with_filters P (join k l r on f)) ≡ rows W T)
      → types (join k l r on f) ≡ types T
      → scans (join k l r on f) ≡ scans T
      → (typed T ≡ true → Bools (field_types (join k l r on f)) P × (typed (join k l r on f) ≡ true))
      → Keeps (push_down_all_join k l r on P (split_conjunction? f)).plan T
  unfolding push_down_all_join schema rule types scans
  join_keeps T st rt tt' ct yt = record {
    schemas = simp filtered_schema st;
    row_lists = λ W d. join_rows W (fit_same W ct d) ∙ rt W;
    well = with_filters_ok _
        (simp filtered_schema (keep_over (schema l) (schema r) on P G k h))
        (join_ok k (with_filters L l) l (with_filters R r) r on f (conjunction (J ++ F)) (filtered_schema L l) (filtered_schema R r)
        (with_filters_ok l (over_left k (schema l) (schema r) on P G) (and_l _ _ sides_ok))
        (with_filters_ok r (over_right k (schema l) (schema r) on P G) (and_r _ _ sides_ok))
        (conjunction_reads _ (All-append (conditions_over (schema l) (schema r) on P G k h)
        (on_conditions_over (schema l) (schema r) on P G k (split?_over _ f (and_l _ _ (and_r _ _ (and_r _ _ o)))))))
        o);
    types_same = simp types_filtered tt';
    scans_same = simp scans_filtered ct;
    typed_again = λ y. join_arm_typed k l r on f o (yt y).1 P h (yt y).0;
  }
    where
      G : List Expr
      G = split_conjunction? f

      L : List Expr
      L = left_push k (schema l) (schema r) on P G

      R : List Expr
      R = right_push k (schema l) (schema r) on P G

      J : List Expr
      J = join_conditions k (schema l) (schema r) on P G

      F : List Expr
      F = on_filter_join_conditions k (schema l) (schema r) on P G

-- ---- SubqueryAlias, Union: the columns get the names of the input, by place
--
--     Filter e                   SubqueryAlias q           Filter e             Union
--       SubqueryAlias q  becomes   Filter (e renamed)        Union      becomes   Filter (e renamed for each)
--         p                          p                         p, ..                p, ..

alias_keeps : (e : Expr) (q : ℕ) (p : Plan) → reads (map (requalify q) (schema p)) e ≡ true → ok (alias q p) ≡ true
    → Keeps (alias q (filter (renamed (map (requalify q) (schema p)) (schema p) e) p)) (filter e (alias q p))
unfolding rule schema types scans
alias_keeps e q p h o = record {
  schemas = refl;
  row_lists = λ W d. sym (alias_rows W e q p (and_intro h o));
  well = and_intro (and_l _ _ o)
      (and_intro (renamed_reads (map (requalify q) (schema p)) (schema p) e (length-map (schema p) (requalify q)) h) (and_r _ _ o));
  types_same = refl;
  scans_same = refl;
  typed_again = alias_arm_typed e q p (and_r _ _ o) h;
}

union_keeps : (e : Expr) (ps : Plans) → reads (schema_first ps) e ≡ true → ok (union ps) ≡ true
    → Keeps (union (filter_each (schema_first ps) e ps)) (filter e (union ps))
unfolding rule schema types scans
union_keeps e ps h o = record {
  schemas = union_schema (schema_first ps) e ps;
  row_lists = λ W d. sym (union_rows W e ps (and_intro h o));
  well = subst (λ n. ok_all n (filter_each (schema_first ps) e ps) ≡ true)
      (ap length (sym (union_schema (schema_first ps) e ps)))
      (filter_each_ok (schema_first ps) e (length (schema_first ps)) ps h refl o);
  types_same = each_types (schema_first ps) e ps;
  scans_same = each_scans (schema_first ps) e ps;
  typed_again = union_arm_typed e ps o h;
}

-- ---- Aggregate: what reads group columns only moves, each replaced by its entry's expression; without group entries nothing moves
--
--     Filter e                        Filter (what stays)
--       Aggregate gs, ags    becomes    Aggregate gs, ags
--         p                               Filter (what moves, replaced)
--                                           p

keep_none : {A : Type 0} (xs : List A) → keep (λ x. false) xs ≡ []
unfolding keep put
keep_none [] = refl
keep_none (x ∷ xs) = keep_none xs

-- the fields of an Aggregate are those of its entries, whatever its input
agg_schema : (gs : List Entry) (ags : List AggEntry) (p q : Plan) → schema (aggregate gs ags p) ≡ schema (aggregate gs ags q)
unfolding schema
agg_schema gs ags p q = refl

-- an Aggregate over Filters groups the rows that pass
agg_input : (W : World) (gs : List Entry) (ags : List AggEntry) (es : List Expr) (p : Plan)
    → rows W (aggregate gs ags (with_filters es p)) ≡ grouped W (schema p) gs ags (keep (sats W (schema p) es) (rows W p))
unfolding rows
agg_input W gs ags es p = ap₂ (λ s rs. grouped W s gs ags rs) (filtered_schema es p) (filtered_rows W es p)

agg_rows : (W : World) (e : Expr) (gs : List Entry) (ags : List AggEntry) (p : Plan) → ok (aggregate gs ags p) ≡ true
    → rows W (rewrite_aggregate e gs ags p).plan ≡ rows W (filter e (aggregate gs ags p))
unfolding rewrite_aggregate rows schema rule with_filters
agg_rows W e [] ags p o = rw (keep_none (split_conjunction e), keep_all (split_conjunction e)) (split_rows W e (aggregate [] ags p))
agg_rows W e (g ∷ gs) ags p o =
    let es = stay (in_groups (g ∷ gs)) e in
    let fs = map (replace_cols (pick (g ∷ gs))) (move (in_groups (g ∷ gs)) e) in
    let q = with_filters fs p in
    filtered_rows W es (aggregate (g ∷ gs) ags q)
    ∙ ap (λ s. keep (sats W s es) (rows W (aggregate (g ∷ gs) ags q))) (agg_schema (g ∷ gs) ags q p)
    ∙ ap (keep (sats W (schema (aggregate (g ∷ gs) ags p)) es))
    (agg_input W (g ∷ gs) ags fs p
    ∙ sym (with_aggs_kept W (schema p) (g ∷ gs) ags (move (in_groups (g ∷ gs)) e) (passes _ (split_conjunction e)) _
    (names_nodup _ (and_l _ _ o)) (rows W p)))
    ∙ rejoin W (schema (aggregate (g ∷ gs) ags p)) (in_groups (g ∷ gs)) e _

in_groups_over : (gs : List Entry) (e : Expr) → Over (names gs) (move (in_groups gs) e)
in_groups_over [] e = All-map (λ x h. cc) (passes (λ x. false) (split_conjunction e))
in_groups_over (g ∷ gs) e = passes _ (split_conjunction e)

aggregate_keeps : (e : Expr) (gs : List Entry) (ags : List AggEntry) (p : Plan)
    → reads (schema (aggregate gs ags p)) e ≡ true → ok (aggregate gs ags p) ≡ true
    → Keeps (rewrite_aggregate e gs ags p).plan (filter e (aggregate gs ags p))
unfolding rewrite_aggregate rule schema types scans
aggregate_keeps e gs ags p h o = record {
  schemas = filtered_schema _ _;
  row_lists = λ W d. agg_rows W e gs ags p o;
  well = with_filters_ok _ (part_over _ _ e h)
      (aggregate_ok gs ags (with_filters down p) p (filtered_schema down p)
      (with_filters_ok p (picked_over (schema p) gs (and_l _ _ (and_r _ _ o)) (in_groups_over gs e)) (and_r _ _ (and_r _ _ (and_r _ _ o))))
      o);
  types_same = simp (types_filtered, filtered_schema);
  scans_same = simp scans_filtered;
  typed_again = aggregate_arm_typed e gs ags p (in_groups_over gs e);
}
  where
    down : List Expr
    down = map (replace_cols (pick gs)) (move (in_groups gs) e)

-- ---- Window: what reads partition columns of every entry only moves, as it is
--
--     Filter e            Filter (what stays)
--       Window ws  becomes  Window ws
--         p                   Filter (what moves)
--                               p

has_all : (s xs : List Name) → all (has s) xs ≡ true → (x : Name) → has xs x ≡ true → has s x ≡ true
unfolding all any
has_all s [] h x k = cc
has_all s (y ∷ xs) h x k = go (same y x) refl k (has_all s xs (and_r _ _ h) x)
  where
    go : (b : Bool) → same y x ≡ b → b || has xs x ≡ true → (has xs x ≡ true → has s x ≡ true) → has s x ≡ true
    go true e k m = ap (has s) (sym (same_eq y x e)) ∙ and_l _ _ h
    go false e k m = m k

module _ {A B : Type 0} where
  transpose : (f : B → A → Bool) (ws : List B) {es : List A}
      → All (λ e. all (λ w. f w e) ws ≡ true) es → All (λ w. All (λ e. f w e ≡ true) es) ws
  unfolding all
  transpose f [] h = anil
  transpose f (w ∷ ws) h = acons (All-map (λ e k. and_l _ _ k) h) (transpose f ws (All-map (λ e k. and_r _ _ k) h))

-- partition columns are columns of the input
parts_over : (ws : List WinEntry) (p : Plan) (e : Expr)
    → all (λ (w : WinEntry). reads (schema p) w.expr & all (has (schema p)) w.parts) ws ≡ true
    → reads (schema p ++ map (λ (w : WinEntry). w.name) ws) e ≡ true
    → Over (schema p) (move (in_partitions ws) e)
unfolding all
parts_over [] p e h k = All-keep _ (split_cols _ e (rw append-nil at k))
parts_over (w ∷ ws) p e h k =
    All-map (λ x i. on_cols_mono _ _ (has_all (schema p) w.parts (and_r _ _ (and_l _ _ h))) x (and_l _ _ i))
    (passes (in_partitions (w ∷ ws)) (split_conjunction e))

window_keeps : (e : Expr) (ws : List WinEntry) (p : Plan) → reads (schema (window ws p)) e ≡ true → ok (window ws p) ≡ true
    → Keeps (rewrite_window e ws p).plan (filter e (window ws p))
unfolding rewrite_window rows schema rule types scans
window_keeps e ws p h o = record {
  schemas = simp filtered_schema;
  row_lists = λ W d.
      simp (filtered_rows W, filtered_schema)
      (ap (keep (sats W (schema (window ws p)) (stay (in_partitions ws) e)))
      (sym (windowed_kept W (schema p) down ws _ (names_nodup _ (and_l _ _ o))
      (transpose _ ws (passes (in_partitions ws) (split_conjunction e))) over (rows_wide W p (and_r _ _ (and_r _ _ o)) d)))
      ∙ rejoin W (schema (window ws p)) (in_partitions ws) e _);
  well = with_filters_ok _ (rw (filtered_schema) (part_over _ _ e h))
      (window_ok ws (with_filters down p) p (filtered_schema down p) (with_filters_ok p over (and_r _ _ (and_r _ _ o))) o);
  types_same = simp types_filtered;
  scans_same = simp scans_filtered;
  typed_again = window_arm_typed e ws p over;
}
  where
    down : List Expr
    down = move (in_partitions ws) e

    over : Over (schema p) (move (in_partitions ws) e)
    over = parts_over ws p e (and_l _ _ (and_r _ _ o)) h

-- ---- a Filter under another predicate that is TRUE on the same rows, or without one: then the input is left alone

resume_keeps : (p : Plan) (e : Expr) (x : Option Expr) → ok p ≡ true
    → ((W : World) (r : Row) → sat? W (schema p) x r ≡ sat W (schema p) e r)
    → reads? (schema p) x ≡ true
    → (boolean (field_types p) e ≡ true → boolean? (field_types p) x ≡ true)
    → ((y : Expr) → reads (schema p) y ≡ true → Keeps (rewrite_filter y p).plan (filter y p))
    → Keeps (resume x (λ y. rewrite_filter y p) p).plan (filter e p)
unfolding rows schema types scans typed
resume_keeps p e none o f h b ih =
    keeps_for refl refl refl (λ W. sym (keep_all (rows W p)) ∙ keep_cong _ _ (all_of (f W) (rows W p))) (λ z. and_r _ _ z) (keeps_self o)
resume_keeps p e (some y) o f h b ih =
    keeps_for refl refl refl (λ W. keep_cong _ _ (all_of (f W) (rows W p))) (λ z. and_intro (b (and_l _ _ z)) (and_r _ _ z)) (ih y h)

-- a Filter whose predicate is simplified and reordered
simplified_keeps : (p : Plan) (e : Expr) → reads (schema p) e ≡ true → ok p ≡ true
    → ((y : Expr) → reads (schema p) y ≡ true → Keeps (rewrite_filter y p).plan (filter y p))
    → Keeps (resume (simplify_filter e) (λ y. rewrite_filter y p) p).plan (filter e p)
simplified_keeps p e h o ih =
    resume_keeps p e (simplify_filter e) o (λ W r. simplify_filter_true e W (schema p) r)
    (simplify_filter_reads e (schema p) h) (simplify_filter_boolean (field_types p) e) ih

-- ---- two Filters merged: the child's conjuncts first, later equal ones dropped, and rewritten again
--
--     Filter e            Filter (b's conjuncts, then e's)
--       Filter b  becomes   p
--         p

merged_keeps : (p : Plan) (e b : Expr) → reads (schema p) e ≡ true → reads (schema p) b ≡ true → ok p ≡ true
    → ((x : Expr) → reads (schema p) x ≡ true → Keeps (rewrite_filter x p).plan (filter x p))
    → Keeps (resume (simplify_merged (conjunction (merged e b))) (λ x. rewrite_filter x p) p).plan (filter e (filter b p))
unfolding with_filters merged conjunction schema types scans typed
merged_keeps p e b h k o ih =
    go (merged e b) (unique_over (schema p) (All-append (split_cols _ b k) (split_cols _ e h))) (λ W. merge_rows W e b p)
    (λ z. unique_all (All-append (bools_split _ b (and_l _ _ (and_r _ _ z))) (bools_split _ e (and_l _ _ z))))
  where
    go : (m : List Expr) → Over (schema p) m
        → ((W : World) → rows W (with_filters m p) ≡ rows W (filter e (filter b p)))
        → (typed (filter e (filter b p)) ≡ true → Bools (field_types p) m)
        → Keeps (resume (simplify_merged (conjunction m)) (λ x. rewrite_filter x p) p).plan (filter e (filter b p))
    go [] i q t = keeps_for refl refl refl q (λ z. and_r _ _ (and_r _ _ z)) (keeps_self o)
    go (x ∷ xs) i q t =
        keeps_for refl refl refl q (λ z. and_intro (conjunction_boolean (field_types p) (t z)) (and_r _ _ (and_r _ _ z)))
        (simplified_keeps p (conjoin x xs) (conjunction_reads (schema p) i) o ih)

-- ---- the rewrite. Distinct, Sort without a fetch and Repartition take the predicate as it is; Limit, and Sort with a fetch, take none
--
--     Filter e                  Distinct, Sort, Repartition
--       Distinct, ..   becomes    Filter e
--         p                         p

pub filter_keeps : (p : Plan) (e : Expr) → reads (schema p) e ≡ true → ok p ≡ true → Keeps (rewrite_filter e p).plan (filter e p)
unfolding rewrite_filter rule schema rows types scans typed
filter_keeps (scan t fs es) e h o = scan_keeps e t fs es h o
filter_keeps (filter b p) e h o = merged_keeps p e b h (and_l _ _ o) (and_r _ _ o) (λ x k. filter_keeps p x k (and_r _ _ o))
filter_keeps (project es p) e h o = project_keeps e es p h o
filter_keeps (join k l r on f) e h o =
    join_keeps k l r on f o (split_conjunction e) (split_cols _ e h) (filter e (join k l r on f)) refl
    (λ W. split_rows W e (join k l r on f)) refl refl (λ z. (bools_split _ e (and_l _ _ z), and_r _ _ z))
filter_keeps (alias q p) e h o = alias_keeps e q p h o
filter_keeps (union ps) e h o = union_keeps e ps h o
filter_keeps (distinct p) e h o = keeps_for refl refl refl (λ W. sym (distinct_rows W e p)) (λ z. z) (keeps_self (and_intro h o))
filter_keeps (sort none ks p) e h o =
    keeps_for refl refl refl (λ W. sym (sort_rows W e ks p))
    (λ z. and_intro (and_l _ _ (and_r _ _ z)) (and_intro (and_l _ _ z) (and_r _ _ (and_r _ _ z))))
    (keeps_self (and_intro (and_l _ _ o) (and_intro h (and_r _ _ o))))
filter_keeps (sort (some n) ks p) e h o = keeps_self (and_intro h o)
filter_keeps (repartition p) e h o = keeps_for refl refl refl (λ W. refl) (λ z. z) (keeps_self (and_intro h o))
filter_keeps (limit n k p) e h o = keeps_self (and_intro h o)
filter_keeps (aggregate gs ags p) e h o = aggregate_keeps e gs ags p h o
filter_keeps (window ws p) e h o = window_keeps e ws p h o

pub rewrite_keeps : (p : Plan) → ok p ≡ true → Keeps (rewrite p).plan p
unfolding rewrite rule with_filters
rewrite_keeps (scan t fs es) o = keeps_self o
rewrite_keeps (filter e p) o = simplified_keeps p e (and_l _ _ o) (and_r _ _ o) (λ x k. filter_keeps p x k (and_r _ _ o))
rewrite_keeps (project es p) o = keeps_self o
rewrite_keeps (join k l r on f) o = join_keeps k l r on f o [] anil (join k l r on f) refl (λ W. refl) refl refl (λ z. (anil, z))
rewrite_keeps (alias q p) o = keeps_self o
rewrite_keeps (union ps) o = keeps_self o
rewrite_keeps (distinct p) o = keeps_self o
rewrite_keeps (sort f ks p) o = keeps_self o
rewrite_keeps (repartition p) o = keeps_self o
rewrite_keeps (limit n k p) o = keeps_self o
rewrite_keeps (aggregate gs ags p) o = keeps_self o
rewrite_keeps (window ws p) o = keeps_self o
