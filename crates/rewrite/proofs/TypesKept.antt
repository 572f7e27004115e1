-- What each step of the rewrite makes obeys the type rules again.
use Prim.Native.Nat.{ℕ}
use mathlib.Core.Path.{◌≡◌, refl, sym, ap, ◌∙◌, subst}
use mathlib.Core.Bool.{Bool, true, not}
use mathlib.Core.List.{List, [], ◌∷◌, ◌++◌, map}
use mathlib.Core.Option.{Option, none, some}
use lib.ListN.{length, length-map}
use lib.Dec.{eqb}
use borrow.Author.Tests.{eqb-true}
use Rattle.plan.specs.Lists.{All, anil, acons}
use Rattle.plan.proofs.Lists.{and_l, and_r, and_intro, All-append, All-keep, All-both}
use Rattle.plan.specs.Syntax.{Name, Expr, col, num, bool, nul, bin, neg, test, between, inlist, fn, Field, Entry, Pair, Key, AggEntry}
use Rattle.plan.specs.Syntax.{WinEntry, Kind, inner, left, right, full, left_semi, right_semi, left_anti, right_anti, Plan, scan, filter}
use Rattle.plan.specs.Syntax.{project, join, alias, union, sort, aggregate, window, Plans, pnil, pcons}
use Rattle.plan.specs.Schema.{look_d, schema, schema_first, sides, requalify, has, nodup}
use Rattle.plan.proofs.Names.{apart, look_d_left, look_d_right}
use Rattle.plan.specs.Columns.{on_cols}
use Rattle.rewrite.specs.Utils.{replace_cols, split_conjunction, split_conjunction?, conjunction, with_filters, unique}
use Rattle.rewrite.specs.SimplifyPredicates.{as_column}
use Rattle.rewrite.specs.PushDownFilter.{pick, names, stay, move, pushable, in_groups, in_partitions, supported_filters}
use Rattle.rewrite.specs.PushDownFilter.{unsupported_filters, volatile_filters, renamed, filter_each, left_preserved, right_preserved}
use Rattle.rewrite.specs.PushDownFilter.{on_left_preserved, on_right_preserved, is_inner, rest, push_to, push_not, keep_predicates}
use Rattle.rewrite.specs.PushDownFilter.{join_conditions, on_filter_join_conditions, inferred_join_predicates, left_push, right_push}
use Rattle.rewrite.specs.PushDownFilter.{push_down_all_join}
use Rattle.plan.specs.Types.{Types, type_of_expr, side_types, types, types_first, field_types, both_types, scans, scans_all}
use Rattle.acceptance.proofs.TypesRule.{well, boolean, boolean?, typed, typed_all, same_types_eq}
use Rattle.rewrite.proofs.Exprs.{filtered_schema}
use Rattle.rewrite.proofs.Project.{split_cols}
use Rattle.rewrite.proofs.Places.{look_ren}
use Rattle.rewrite.proofs.Join.{Over}
use Rattle.rewrite.proofs.PushJoin.{over_left, over_right}
use Rattle.acceptance.proofs.NamesRule.{names_nodup, ok_nodup}
use Rattle.acceptance.specs.NamesRule.{reads, ok, ok_all, rule}
use Rattle.rewrite.proofs.References.{all_true, true_all, unique_all, split?_over}
use Rattle.rewrite.proofs.TypeLaws.{Bools, bools_cong, boolean_sub, bools_sub, bools_split, bools_split?, conjunction_boolean}
use Rattle.rewrite.proofs.TypeLaws.{bools_clauses, Linked, bools_inferred, bools_if, pick_type, pick_well}
use Rattle.plan.proofs.Types.{types_length}

-- ---- Filters over a plan

pub types_filtered : (es : List Expr) (p : Plan) → types (with_filters es p) ≡ types p
unfolding with_filters types
types_filtered [] p = refl
types_filtered (e ∷ es) p = refl

pub scans_filtered : (es : List Expr) (p : Plan) → scans (with_filters es p) ≡ scans p
unfolding with_filters scans
scans_filtered [] p = refl
scans_filtered (e ∷ es) p = refl

pub with_filters_typed : {es : List Expr} (p : Plan) → Bools (field_types p) es → typed p ≡ true → typed (with_filters es p) ≡ true
unfolding with_filters typed conjunction
with_filters_typed p anil o = o
with_filters_typed p (acons h hs) o = and_intro (conjunction_boolean (field_types p) (acons h hs)) o

-- ---- an input of the same fields, under each kind of plan

pub filter_typed : (e : Expr) (q p : Plan) → schema q ≡ schema p → types q ≡ types p → typed q ≡ true → typed (filter e p) ≡ true
    → typed (filter e q) ≡ true
unfolding typed
filter_typed e q p s u w o = and_intro (rw (s, u) (and_l _ _ o)) w

pub project_typed : (es : List Entry) (q p : Plan) → schema q ≡ schema p → types q ≡ types p → typed q ≡ true → typed (project es p) ≡ true
    → typed (project es q) ≡ true
unfolding typed
project_typed es q p s u w o = and_intro (rw (s, u) (and_l _ _ o)) w

pub join_typed : (k : Kind) (m l s r : Plan) (on : List Pair) (f g : Option Expr) → schema m ≡ schema l → schema s ≡ schema r
    → types m ≡ types l → types s ≡ types r → typed m ≡ true → typed s ≡ true → boolean? (both_types l r) g ≡ true
    → typed (join k l r on f) ≡ true → typed (join k m s on g) ≡ true
unfolding typed
join_typed k m l s r on f g a b c d w v h o = and_intro (rw (a, b, c, d) (and_l _ _ o)) (and_intro (rw (a, b, c, d) h) (and_intro w v))

pub sort_typed : (f : Option ℕ) (ks : List Key) (q p : Plan) → schema q ≡ schema p → types q ≡ types p → typed q ≡ true
    → typed (sort f ks p) ≡ true → typed (sort f ks q) ≡ true
unfolding typed
sort_typed f ks q p s u w o = and_intro (rw (s, u) (and_l _ _ o)) w

pub aggregate_typed : (gs : List Entry) (ags : List AggEntry) (q p : Plan) → schema q ≡ schema p → types q ≡ types p → typed q ≡ true
    → typed (aggregate gs ags p) ≡ true → typed (aggregate gs ags q) ≡ true
unfolding typed
aggregate_typed gs ags q p s u w o = and_intro (rw (s, u) (and_l _ _ o)) (and_intro (rw (s, u) (and_l _ _ (and_r _ _ o))) w)

pub window_typed : (ws : List WinEntry) (q p : Plan) → schema q ≡ schema p → types q ≡ types p → typed q ≡ true → typed (window ws p) ≡ true
    → typed (window ws q) ≡ true
unfolding typed
window_typed ws q p s u w o = and_intro (rw (s, u) (and_l _ _ o)) w

-- ---- the arms

pub scan_arm_typed : (e : Expr) (t : ℕ) (fs : List Field) (es : List Expr) → typed (filter e (scan t fs es)) ≡ true
    → typed (with_filters (unsupported_filters fs e ++ volatile_filters e) (scan t fs (unique (es ++ supported_filters fs e)))) ≡ true
unfolding typed types schema
scan_arm_typed e t fs es o = with_filters_typed (scan t fs (unique (es ++ supported_filters fs e)))
    (All-append (All-keep _ (All-keep _ bs)) (All-keep _ bs))
    (true_all _ (unique_all (All-append (all_true _ es (and_r _ _ o)) (All-keep _ (All-keep _ bs)))))
  where
    bs : Bools (look_d 0 (map (λ (f : Field). f.name) fs) (map (λ (f : Field). f.ty) fs)) (split_conjunction e)
    bs = bools_split _ e (and_l _ _ o)

pub project_arm_typed : (e : Expr) (es : List Entry) (p : Plan) → reads (names es) e ≡ true → typed (filter e (project es p)) ≡ true
    → typed (with_filters (stay (pushable es) e) (project es (with_filters (map (replace_cols (pick es)) (move (pushable es) e)) p))) ≡ true
unfolding typed types schema
project_arm_typed e es p h o =
    with_filters_typed (project es (with_filters D p)) (subst (λ τ. Bools τ (stay (pushable es) e)) (sym same_env) (All-keep _ bs))
    (project_typed es (with_filters D p) p (filtered_schema D p) (types_filtered D p)
    (with_filters_typed p (bools_sub (has (names es)) _ (field_types p) (pick es) (pick_type (field_types p) es)
    (pick_well (field_types p) es (and_l _ _ (and_r _ _ o))) (All-keep _ (split_cols (has (names es)) e h)) (All-keep _ bs))
    (and_r _ _ (and_r _ _ o))) (and_r _ _ o))
  where
    D : List Expr
    D = map (replace_cols (pick es)) (move (pushable es) e)

    bs : Bools (field_types (project es p)) (split_conjunction e)
    bs = bools_split _ e (and_l _ _ o)

    same_env : field_types (project es (with_filters D p)) ≡ field_types (project es p)
    same_env = simp (filtered_schema, types_filtered)

pub alias_arm_typed : (e : Expr) (q : ℕ) (p : Plan) → ok p ≡ true → reads (map (requalify q) (schema p)) e ≡ true
    → typed (filter e (alias q p)) ≡ true → typed (alias q (filter (renamed (map (requalify q) (schema p)) (schema p) e) p)) ≡ true
unfolding typed types schema renamed type_of_expr well
alias_arm_typed e q p k h o = and_intro
    (boolean_sub (has (map (requalify q) (schema p))) _ (field_types p) _
    (λ x i. sym (look_ren 0 (map (requalify q) (schema p)) (schema p) (types p) x (length-map (schema p) (requalify q)) (ok_nodup p k) i))
    (λ x i. refl) e h (and_l _ _ o)) (and_r _ _ o)

each_typed : (s : List Name) (ts : List ℕ) (e : Expr) (n : ℕ) (ps : Plans) → reads s e ≡ true → boolean (look_d 0 s ts) e ≡ true → length s ≡ n
    → ok_all n ps ≡ true → typed_all ts ps ≡ true → typed_all ts (filter_each s e ps) ≡ true
unfolding filter_each typed types schema rule renamed type_of_expr well
each_typed s ts e n pnil h b w k o = refl
each_typed s ts e n (pcons p ps) h b w k o =
    let i : length s ≡ length (schema p) = w ∙ sym (eqb-true (length (schema p)) n (and_l _ _ k)) in
    let q : types p ≡ ts = same_types_eq (types p) ts (and_l _ _ o) in
    let b' : boolean (look_d 0 s (types p)) e ≡ true = rw q b in
    and_intro (and_l _ _ o) (and_intro
    (and_intro (boolean_sub (has s) (look_d 0 s (types p)) (field_types p) _
    (λ x j. sym (look_ren 0 s (schema p) (types p) x i (ok_nodup p (and_l _ _ (and_r _ _ k))) j)) (λ x j. refl) e h b')
    (and_l _ _ (and_r _ _ o))) (each_typed s ts e n ps h b w (and_r _ _ (and_r _ _ k)) (and_r _ _ (and_r _ _ o))))

pub each_types : (s : List Name) (e : Expr) (ps : Plans) → types_first (filter_each s e ps) ≡ types_first ps
unfolding types filter_each
each_types s e pnil = refl
each_types s e (pcons p ps) = refl

pub each_scans : (s : List Name) (e : Expr) (ps : Plans) → scans_all (filter_each s e ps) ≡ scans_all ps
unfolding scans filter_each
each_scans s e pnil = refl
each_scans s e (pcons p ps) = ap (scans p ++◌) (each_scans s e ps)

pub union_arm_typed : (e : Expr) (ps : Plans) → ok (union ps) ≡ true → reads (schema_first ps) e ≡ true → typed (filter e (union ps)) ≡ true
    → typed (union (filter_each (schema_first ps) e ps)) ≡ true
unfolding typed types schema rule
union_arm_typed e ps k h o = subst (λ ts. typed_all ts (filter_each (schema_first ps) e ps) ≡ true) (sym (each_types (schema_first ps) e ps))
    (each_typed (schema_first ps) (types_first ps) e (length (schema_first ps)) ps h (and_l _ _ o) refl k (and_r _ _ o))

pub aggregate_arm_typed : (e : Expr) (gs : List Entry) (ags : List AggEntry) (p : Plan) → Over (names gs) (move (in_groups gs) e)
    → typed (filter e (aggregate gs ags p)) ≡ true
    → typed (with_filters (stay (in_groups gs) e) (aggregate gs ags (with_filters (map (replace_cols (pick gs)) (move (in_groups gs) e)) p))) ≡ true
unfolding typed types schema
aggregate_arm_typed e gs ags p h o =
    with_filters_typed (aggregate gs ags (with_filters D p)) (subst (λ τ. Bools τ (stay (in_groups gs) e)) (sym same_env) (All-keep _ bs))
    (aggregate_typed gs ags (with_filters D p) p (filtered_schema D p) (types_filtered D p)
    (with_filters_typed p (bools_sub (has (names gs)) group_types (field_types p) (pick gs) (pick_type (field_types p) gs)
    (pick_well (field_types p) gs (and_l _ _ (and_r _ _ o))) h
    (bools_cong (has (names gs)) (field_types (aggregate gs ags p)) group_types
    (λ x i. look_d_left 0 (names gs) _ _ _ (length-map gs _ ∙ sym (length-map gs _)) x i) h (All-keep _ bs)))
    (and_r _ _ (and_r _ _ (and_r _ _ o)))) (and_r _ _ o))
  where
    D : List Expr
    D = map (replace_cols (pick gs)) (move (in_groups gs) e)

    group_types : Types
    group_types = look_d 0 (names gs) (map (λ (e : Entry). type_of_expr (field_types p) e.expr) gs)

    bs : Bools (field_types (aggregate gs ags p)) (split_conjunction e)
    bs = bools_split _ e (and_l _ _ o)

    same_env : field_types (aggregate gs ags (with_filters D p)) ≡ field_types (aggregate gs ags p)
    same_env = simp (filtered_schema, types_filtered)

pub window_arm_typed : (e : Expr) (ws : List WinEntry) (p : Plan) → Over (schema p) (move (in_partitions ws) e)
    → typed (filter e (window ws p)) ≡ true
    → typed (with_filters (stay (in_partitions ws) e) (window ws (with_filters (move (in_partitions ws) e) p))) ≡ true
unfolding typed types schema
window_arm_typed e ws p h o =
    with_filters_typed (window ws (with_filters D p)) (subst (λ τ. Bools τ (stay (in_partitions ws) e)) (sym same_env) (All-keep _ bs))
    (window_typed ws (with_filters D p) p (filtered_schema D p) (types_filtered D p)
    (with_filters_typed p (bools_cong (has (schema p)) (field_types (window ws p)) (field_types p)
    (λ x i. look_d_left 0 (schema p) _ (types p) _ (types_length p) x i) h (All-keep _ bs)) (and_r _ _ (and_r _ _ o))) (and_r _ _ o))
  where
    D : List Expr
    D = move (in_partitions ws) e

    bs : Bools (field_types (window ws p)) (split_conjunction e)
    bs = bools_split _ e (and_l _ _ o)

    same_env : field_types (window ws (with_filters D p)) ≡ field_types (window ws p)
    same_env = simp (filtered_schema, types_filtered)

-- ---- Join

side_look : (s t : List Name) (u v : List ℕ) → nodup (s ++ t) ≡ true → length u ≡ length s → (k : Kind) (x : Name)
    → has (sides k s t) x ≡ true → look_d 0 (sides k s t) (side_types k u v) x ≡ look_d 0 (s ++ t) (u ++ v) x
side_look s t u v n w inner x h = refl
side_look s t u v n w left x h = refl
side_look s t u v n w right x h = refl
side_look s t u v n w full x h = refl
side_look s t u v n w left_semi x h = sym (look_d_left 0 s t u v w x h)
side_look s t u v n w right_semi x h = sym (look_d_right 0 s t u v w x (apart s t n x h))
side_look s t u v n w left_anti x h = sym (look_d_left 0 s t u v w x h)
side_look s t u v n w right_anti x h = sym (look_d_right 0 s t u v w x (apart s t n x h))

data ColView : Expr → Option Name → Type 0 where
  is_col : {x : Name} → ColView (col x) (some x)
  not_col : {e : Expr} → ColView e none

col_view : (e : Expr) → ColView e (as_column e)
unfolding as_column
col_view (col x) = is_col
col_view (num z) = not_col
col_view (bool b) = not_col
col_view (nul t) = not_col
col_view (bin o a b) = not_col
col_view (neg a) = not_col
col_view (test t a) = not_col
col_view (between n a l u) = not_col
col_view (inlist n a xs) = not_col
col_view (fn p q r xs) = not_col

module _ (s t : List Name) (u v : List ℕ) (n : nodup (s ++ t) ≡ true) (w : length u ≡ length s) where
  linked : {a b : Expr} {o p : Option Name} → ColView a o → ColView b p → reads s a ≡ true → reads t b ≡ true
      → eqb (type_of_expr (look_d 0 s u) a) (type_of_expr (look_d 0 t v) b) ≡ true → Linked (look_d 0 (s ++ t) (u ++ v)) o p
  unfolding type_of_expr on_cols
  linked (is_col {x = y}) (is_col {x = z}) h i e = look_d_left 0 s t u v w y h ∙ eqb-true (look_d 0 s u y) (look_d 0 t v z) e
      ∙ sym (look_d_right 0 s t u v w z (apart s t n z i))
  linked is_col not_col h i e = tt
  linked not_col c h i e = tt

rest_bools : (τ : Types) (p q : Bool) (s t : List Name) {es : List Expr} → Bools τ es → Bools τ (rest p q s t es)
unfolding push_not
rest_bools τ p q s t h = All-keep _ (All-keep _ h)

infer_bools : (k : Kind) (τ : Types) (s t : List Name) {on : List Pair} {P G : List Expr}
    → All (λ (k : Pair). Linked τ (as_column k.lhs) (as_column k.rhs)) on → Over (sides k s t) P → Over (s ++ t) G → Bools τ P
    → Bools τ G → Bools τ (inferred_join_predicates k s t on P G)
infer_bools inner τ s t n h i b c = bools_inferred τ (has (s ++ t)) n (All-append h i) (All-append b c)
infer_bools left τ s t n h i b c = anil
infer_bools right τ s t n h i b c = anil
infer_bools full τ s t n h i b c = anil
infer_bools left_semi τ s t n h i b c = anil
infer_bools right_semi τ s t n h i b c = anil
infer_bools left_anti τ s t n h i b c = anil
infer_bools right_anti τ s t n h i b c = anil

module _ (k : Kind) (l r : Plan) (on : List Pair) (f : Option Expr) (o : ok (join k l r on f) ≡ true) (ty : typed (join k l r on f) ≡ true)
    (P : List Expr) (h : Over (sides k (schema l) (schema r)) P) (b : Bools (field_types (join k l r on f)) P) where
  G : List Expr
  G = split_conjunction? f

  distinct_ones : nodup (schema l ++ schema r) ≡ true
  unfolding rule
  distinct_ones = names_nodup _ (and_l _ _ o)

  P-bools : Bools (both_types l r) P
  unfolding schema types
  P-bools = bools_cong (has (sides k (schema l) (schema r))) _ (both_types l r)
      (λ x i. side_look (schema l) (schema r) (types l) (types r) distinct_ones (types_length l) k x i) h b

  G-bools : Bools (both_types l r) G
  unfolding typed G
  G-bools = bools_split? _ f (and_l _ _ (and_r _ _ ty))

  G-over : Over (schema l ++ schema r) G
  unfolding rule G
  G-over = split?_over _ f (and_l _ _ (and_r _ _ (and_r _ _ o)))

  all_linked : All (λ (k : Pair). Linked (both_types l r) (as_column k.lhs) (as_column k.rhs)) on
  unfolding rule typed
  all_linked = All-both (λ (k : Pair) i j. linked (schema l) (schema r) (types l) (types r) distinct_ones (types_length l) (col_view k.lhs)
      (col_view k.rhs) (and_l _ _ i) (and_r _ _ i) (and_l _ _ j)) (all_true _ on (and_l _ _ (and_r _ _ o))) (all_true _ on (and_l _ _ ty))

  new_bools : Bools (both_types l r) (inferred_join_predicates k (schema l) (schema r) on P G)
  new_bools = infer_bools k (both_types l r) (schema l) (schema r) all_linked h G-over P-bools G-bools

  keep_bools : (τ : Types) → Bools τ P → Bools τ (keep_predicates k (schema l) (schema r) on P G)
  unfolding push_not
  keep_bools τ c = bools_if τ (not (is_inner k)) (rest_bools τ (left_preserved k) (right_preserved k) (schema l) (schema r) c)

  conditions_bools : Bools (both_types l r) (join_conditions k (schema l) (schema r) on P G)
  unfolding push_not
  conditions_bools = bools_if (both_types l r) (is_inner k)
      (rest_bools (both_types l r) (left_preserved k) (right_preserved k) (schema l) (schema r) P-bools)

  on_conditions_bools : Bools (both_types l r) (on_filter_join_conditions k (schema l) (schema r) on P G)
  unfolding push_not
  on_conditions_bools = All-keep _ (All-keep _ G-bools)

  left_bools : Bools (field_types l) (left_push k (schema l) (schema r) on P G)
  unfolding push_to push_not
  left_bools = bools_cong (has (schema l)) (both_types l r) (field_types l)
      (λ x i. look_d_left 0 (schema l) (schema r) (types l) (types r) (types_length l) x i) (over_left k (schema l) (schema r) on P G)
      (All-append (All-keep _ P-bools)
      (All-append (All-keep _ new_bools)
      (All-append (All-keep _ G-bools)
      (bools_clauses _ (has (schema l))
      (All-append (bools_if _ (left_preserved k) (All-append (keep_bools _ P-bools) conditions_bools))
      (bools_if _ (on_left_preserved k) on_conditions_bools))))))

  right_bools : Bools (field_types r) (right_push k (schema l) (schema r) on P G)
  unfolding push_to push_not
  right_bools = bools_cong (has (schema r)) (both_types l r) (field_types r)
      (λ x i. look_d_right 0 (schema l) (schema r) (types l) (types r) (types_length l) x (apart (schema l) (schema r) distinct_ones x i))
      (over_right k (schema l) (schema r) on P G)
      (All-append (All-keep _ (All-keep _ P-bools))
      (All-append (All-keep _ (All-keep _ new_bools))
      (All-append (All-keep _ (All-keep _ G-bools))
      (bools_clauses _ (has (schema r))
      (All-append (bools_if _ (right_preserved k) (All-append (keep_bools _ P-bools) conditions_bools))
      (bools_if _ (on_right_preserved k) on_conditions_bools))))))

  pub join_arm_typed : typed (push_down_all_join k l r on P (split_conjunction? f)).plan ≡ true
  unfolding push_down_all_join schema types G typed
  join_arm_typed =
      with_filters_typed (join k (with_filters L l) (with_filters R r) on (conjunction (J ++ F)))
      (subst (λ τ. Bools τ (keep_predicates k (schema l) (schema r) on P G)) (sym same_env) (keep_bools _ b))
      (join_typed k (with_filters L l) l (with_filters R r) r on f (conjunction (J ++ F)) (filtered_schema L l) (filtered_schema R r)
      (types_filtered L l) (types_filtered R r)
      (with_filters_typed l left_bools (and_l _ _ (and_r _ _ (and_r _ _ ty))))
      (with_filters_typed r right_bools (and_r _ _ (and_r _ _ (and_r _ _ ty))))
      (conjunction_boolean (both_types l r) (All-append conditions_bools on_conditions_bools)) ty)
    where
      L : List Expr
      L = left_push k (schema l) (schema r) on P G

      R : List Expr
      R = right_push k (schema l) (schema r) on P G

      J : List Expr
      J = join_conditions k (schema l) (schema r) on P G

      F : List Expr
      F = on_filter_join_conditions k (schema l) (schema r) on P G

      same_env : field_types (join k (with_filters L l) (with_filters R r) on (conjunction (J ++ F))) ≡ field_types (join k l r on f)
      same_env = simp (filtered_schema, types_filtered)
