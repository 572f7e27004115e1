-- A rewrite at a record of a plan: what may stand in the place of a part may stand in the whole, so a granted rewrite keeps the rows of the root,
-- whatever the functions mean and whatever tables fit the plan, and leaves a plan that keeps the rules. (Lists of calls: crate preservation.)
use Prim.Native.Nat.{ℕ}
use mathlib.Core.Path.{◌≡◌, refl, ap, ◌∙◌}
use mathlib.Core.Bool.{Bool, true, false}
use mathlib.Core.List.{List, ◌++◌}
use mathlib.Core.Option.{Option, none, some}
use lib.ListN.{length}
use lib.Dec.{eqb}
use Rattle.plan.specs.Lists.{choose}
use Rattle.plan.proofs.Lists.{and_l, and_r, and_intro}
use Rattle.plan.specs.Syntax.{Expr, Entry, Pair, Key, AggEntry, WinEntry, Kind, Plan, scan, filter, project, join, alias, union, distinct}
use Rattle.plan.specs.Syntax.{sort, repartition, limit, aggregate, window, Plans, pnil, pcons}
use Rattle.meaning.specs.Meaning.{World, rows, rows_all}
use Rattle.meaning.specs.Tables.{ScansFit, TablesFit}
use Rattle.meaning.proofs.Tables.{fit_left, fit_right, fit_same}
use Rattle.plan.specs.Schema.{schema, schema_first}
use Rattle.rewrite.specs.PushDownFilter.{rewrite}
use Rattle.rewrite.specs.Limits.{within_limits}
use Rattle.rewrite.specs.RewriteAt.{Focus, FocusAll, here, focus_in, inside_all, first_of, later_of, focus, focus_all, Answer, granted}
use Rattle.rewrite.specs.RewriteAt.{refused, result_fits, rewrite_in, rewrite_at}
use Rattle.acceptance.proofs.NamesRule.{ok_names}
use Rattle.acceptance.specs.NamesRule.{ok, ok_all, rule}
use Rattle.plan.specs.Types.{types, types_first, scans, scans_all}
use Rattle.acceptance.proofs.TypesRule.{typed, typed_all, types_ok, names_typed_ok}
use Rattle.rewrite.proofs.TypesKept.{filter_typed, project_typed, join_typed, sort_typed, aggregate_typed, window_typed}
use Rattle.rewrite.proofs.Accepted.{accepted}
use Rattle.rewrite.proofs.Rewrite.{Keeps, keeps_self, filter_ok, project_ok, join_ok, aggregate_ok, window_ok, rewrite_keeps}

-- one rewrite after another
pub keeps_trans : {a b c : Plan} → Keeps a b → Keeps b c → Keeps a c
keeps_trans h k = record {
  schemas = h.schemas ∙ k.schemas;
  row_lists = λ W d. h.row_lists W (fit_same W k.scans_same d) ∙ k.row_lists W d;
  well = h.well;
  types_same = h.types_same ∙ k.types_same;
  scans_same = h.scans_same ∙ k.scans_same;
  typed_again = λ y. h.typed_again (k.typed_again y);
}

-- ---- each kind of plan keeps what its input keeps: q in the place of p, under the same plan

in_filter : (e : Expr) {q p : Plan} → ok (filter e p) ≡ true → Keeps q p → Keeps (filter e q) (filter e p)
unfolding rows schema types scans typed
in_filter e {q} {p} o h = record {
  schemas = h.schemas;
  row_lists = λ W d. rw (h.schemas, h.row_lists W d);
  well = filter_ok e q p h.schemas h.well o;
  types_same = h.types_same;
  scans_same = h.scans_same;
  typed_again = λ y. filter_typed e q p h.schemas h.types_same (h.typed_again (and_r _ _ y)) y;
}

in_project : (es : List Entry) {q p : Plan} → ok (project es p) ≡ true → Keeps q p → Keeps (project es q) (project es p)
unfolding rows schema types scans typed
in_project es {q} {p} o h = record {
  schemas = refl;
  row_lists = λ W d. rw (h.schemas, h.row_lists W d);
  well = project_ok es q p h.schemas h.well o;
  types_same = rw (h.schemas, h.types_same);
  scans_same = h.scans_same;
  typed_again = λ y. project_typed es q p h.schemas h.types_same (h.typed_again (and_r _ _ y)) y;
}

-- the left input of a join
in_left : (k : Kind) {q l : Plan} (r : Plan) (on : List Pair) (g : Option Expr) → ok (join k l r on g) ≡ true
    → Keeps q l → Keeps (join k q r on g) (join k l r on g)
unfolding rows schema rule types scans typed
in_left k {q} {l} r on g o h = record {
  schemas = rw h.schemas;
  row_lists = λ W d. rw (h.schemas, h.row_lists W (fit_left W (scans l) (scans r) d));
  well = let i = and_r _ _ (and_r _ _ o) in join_ok k q l r r on g g h.schemas refl h.well (and_r _ _ (and_r _ _ i)) (and_l _ _ i) o;
  types_same = rw h.types_same;
  scans_same = rw h.scans_same;
  typed_again = λ y.
      let i = and_r _ _ y in
      join_typed k q l r r on g g h.schemas refl h.types_same refl
      (h.typed_again (and_l _ _ (and_r _ _ i))) (and_r _ _ (and_r _ _ i)) (and_l _ _ i) y;
}

-- the right input of a join
in_right : (k : Kind) (l : Plan) {q r : Plan} (on : List Pair) (g : Option Expr) → ok (join k l r on g) ≡ true
    → Keeps q r → Keeps (join k l q on g) (join k l r on g)
unfolding rows schema rule types scans typed
in_right k l {q} {r} on g o h = record {
  schemas = rw h.schemas;
  row_lists = λ W d. rw (h.schemas, h.row_lists W (fit_right W (scans l) (scans r) d));
  well = let i = and_r _ _ (and_r _ _ o) in join_ok k l l q r on g g refl h.schemas (and_l _ _ (and_r _ _ i)) h.well (and_l _ _ i) o;
  types_same = rw h.types_same;
  scans_same = rw h.scans_same;
  typed_again = λ y.
      let i = and_r _ _ y in
      join_typed k l l q r on g g refl h.schemas refl h.types_same
      (and_l _ _ (and_r _ _ i)) (h.typed_again (and_r _ _ (and_r _ _ i))) (and_l _ _ i) y;
}

in_alias : (a : ℕ) {q p : Plan} → ok (alias a p) ≡ true → Keeps q p → Keeps (alias a q) (alias a p)
unfolding rows schema rule types scans typed
in_alias a o h = record {
  schemas = rw h.schemas;
  row_lists = h.row_lists;
  well = and_intro (rw h.schemas (and_l _ _ o)) h.well;
  types_same = h.types_same;
  scans_same = h.scans_same;
  typed_again = h.typed_again;
}

in_distinct : {q p : Plan} → Keeps q p → Keeps (distinct q) (distinct p)
unfolding rows schema rule types scans typed
in_distinct h = record {
  schemas = h.schemas;
  row_lists = λ W d. rw (h.row_lists W d);
  well = h.well;
  types_same = h.types_same;
  scans_same = h.scans_same;
  typed_again = h.typed_again;
}

in_sort : (f : Option ℕ) (ks : List Key) {q p : Plan} → ok (sort f ks p) ≡ true → Keeps q p → Keeps (sort f ks q) (sort f ks p)
unfolding rows schema rule types scans typed
in_sort f ks {q} {p} o h = record {
  schemas = h.schemas;
  row_lists = λ W d. rw (h.schemas, h.row_lists W d);
  well = and_intro (rw h.schemas (and_l _ _ o)) h.well;
  types_same = h.types_same;
  scans_same = h.scans_same;
  typed_again = λ y. sort_typed f ks q p h.schemas h.types_same (h.typed_again (and_r _ _ y)) y;
}

in_repartition : {q p : Plan} → Keeps q p → Keeps (repartition q) (repartition p)
unfolding rows schema rule types scans typed
in_repartition h = record {
  schemas = h.schemas;
  row_lists = h.row_lists;
  well = h.well;
  types_same = h.types_same;
  scans_same = h.scans_same;
  typed_again = h.typed_again;
}

in_limit : (i j : ℕ) {q p : Plan} → Keeps q p → Keeps (limit i j q) (limit i j p)
unfolding rows schema rule types scans typed
in_limit i j h = record {
  schemas = h.schemas;
  row_lists = λ W d. rw (h.row_lists W d);
  well = h.well;
  types_same = h.types_same;
  scans_same = h.scans_same;
  typed_again = h.typed_again;
}

in_aggregate : (gs : List Entry) (ags : List AggEntry) {q p : Plan} → ok (aggregate gs ags p) ≡ true
    → Keeps q p → Keeps (aggregate gs ags q) (aggregate gs ags p)
unfolding rows schema types scans typed
in_aggregate gs ags {q} {p} o h = record {
  schemas = refl;
  row_lists = λ W d. rw (h.schemas, h.row_lists W d);
  well = aggregate_ok gs ags q p h.schemas h.well o;
  types_same = rw (h.schemas, h.types_same);
  scans_same = h.scans_same;
  typed_again = λ y. aggregate_typed gs ags q p h.schemas h.types_same (h.typed_again (and_r _ _ (and_r _ _ y))) y;
}

in_window : (ws : List WinEntry) {q p : Plan} → ok (window ws p) ≡ true → Keeps q p → Keeps (window ws q) (window ws p)
unfolding rows schema types scans typed
in_window ws {q} {p} o h = record {
  schemas = rw h.schemas;
  row_lists = λ W d. rw (h.schemas, h.row_lists W d);
  well = window_ok ws q p h.schemas h.well o;
  types_same = rw h.types_same;
  scans_same = h.scans_same;
  typed_again = λ y. window_typed ws q p h.schemas h.types_same (h.typed_again (and_r _ _ y)) y;
}

-- the inputs of a Union
record KeepsAll (n : ℕ) (qs ps : Plans) : Type 0 where
  schemas : schema_first qs ≡ schema_first ps
  row_lists : (W : World) → ScansFit W (scans_all ps) → rows_all W qs ≡ rows_all W ps
  well : ok_all n qs ≡ true
  types_same : types_first qs ≡ types_first ps
  scans_same : scans_all qs ≡ scans_all ps
  typed_again : (ts : List ℕ) → typed_all ts ps ≡ true → typed_all ts qs ≡ true

in_union : {qs ps : Plans} → KeepsAll (length (schema_first ps)) qs ps → Keeps (union qs) (union ps)
unfolding rows schema rule types scans typed
in_union h = record {
  schemas = h.schemas;
  row_lists = h.row_lists;
  well = rw h.schemas h.well;
  types_same = h.types_same;
  scans_same = h.scans_same;
  typed_again = λ y. h.typed_again _ (rw h.types_same y);
}

in_first : (n : ℕ) {q p : Plan} (ps : Plans) → ok_all n (pcons p ps) ≡ true → Keeps q p → KeepsAll n (pcons q ps) (pcons p ps)
unfolding rows schema rule types scans typed
in_first n {p = p} ps o h = record {
  schemas = h.schemas;
  row_lists = λ W d. ap (◌++ rows_all W ps) (h.row_lists W (fit_left W (scans p) (scans_all ps) d));
  well = and_intro (rw h.schemas (and_l _ _ o)) (and_intro h.well (and_r _ _ (and_r _ _ o)));
  types_same = h.types_same;
  scans_same = ap (◌++ scans_all ps) h.scans_same;
  typed_again = λ ts y.
      and_intro (rw h.types_same (and_l _ _ y)) (and_intro (h.typed_again (and_l _ _ (and_r _ _ y))) (and_r _ _ (and_r _ _ y)));
}

in_later : (n : ℕ) (p : Plan) {qs ps : Plans} → ok_all n (pcons p ps) ≡ true → KeepsAll n qs ps → KeepsAll n (pcons p qs) (pcons p ps)
unfolding rows schema rule types scans typed
in_later n p {ps = ps} o h = record {
  schemas = refl;
  row_lists = λ W d. ap (rows W p ++◌) (h.row_lists W (fit_right W (scans p) (scans_all ps) d));
  well = and_intro (and_l _ _ o) (and_intro (and_l _ _ (and_r _ _ o)) h.well);
  types_same = refl;
  scans_same = ap (scans p ++◌) h.scans_same;
  typed_again = λ ts y. and_intro (and_l _ _ y) (and_intro (and_l _ _ (and_r _ _ y)) (h.typed_again ts (and_r _ _ (and_r _ _ y))));
}

-- ---- a plan in its place: it is ok, and what keeps it, put in its place, keeps the whole

record InFocus (p : Plan) (c : Focus) : Type 0 where
  there : ok c.plan ≡ true
  put_back : (q : Plan) → Keeps q c.plan → Keeps (c.back q) p

record InFocusAll (n : ℕ) (ps : Plans) (c : FocusAll) : Type 0 where
  there : ok c.plan ≡ true
  put_back : (q : Plan) → Keeps q c.plan → KeepsAll n (c.back q) ps

data Focused (p : Plan) : Option Focus → Type 0 where
  not_there : Focused p none
  found : {c : Focus} → InFocus p c → Focused p (some c)

data FocusedAll (n : ℕ) (ps : Plans) : Option FocusAll → Type 0 where
  not_there_all : FocusedAll n ps none
  found_all : {c : FocusAll} → InFocusAll n ps c → FocusedAll n ps (some c)

focus_here : {p : Plan} → ok p ≡ true → Focused p (here p)
focus_here o = found (record { there = o; put_back = λ q k. k })

focus_inside : {p r : Plan} {o : Option Focus} (f : Plan → Plan)
    → ((q : Plan) → Keeps q p → Keeps (f q) r) → Focused p o → Focused r (focus_in f o)
focus_inside f step not_there = not_there
focus_inside f step (found h) = found (record { there = h.there; put_back = λ q k. step _ (h.put_back q k) })

focus_union : {ps : Plans} {o : Option FocusAll}
    → FocusedAll (length (schema_first ps)) ps o → Focused (union ps) (inside_all union o)
focus_union not_there_all = not_there
focus_union (found_all h) = found (record { there = h.there; put_back = λ q k. in_union (h.put_back q k) })

focus_first : (n : ℕ) {p : Plan} (ps : Plans) {o : Option Focus} → ok_all n (pcons p ps) ≡ true
    → Focused p o → FocusedAll n (pcons p ps) (first_of ps o)
focus_first n ps w not_there = not_there_all
focus_first n ps w (found h) = found_all (record { there = h.there; put_back = λ q k. in_first n ps w (h.put_back q k) })

focus_later : (n : ℕ) (p : Plan) {ps : Plans} {o : Option FocusAll} → ok_all n (pcons p ps) ≡ true
    → FocusedAll n ps o → FocusedAll n (pcons p ps) (later_of p o)
focus_later n p w not_there_all = not_there_all
focus_later n p w (found_all h) = found_all (record { there = h.there; put_back = λ q k. in_later n p w (h.put_back q k) })

either : (b : Bool) {p : Plan} {x y : Option Focus} → Focused p x → Focused p y → Focused p (choose b x y)
unfolding choose
either true h k = h
either false h k = k

either_all : (b : Bool) {n : ℕ} {ps : Plans} {x y : Option FocusAll}
    → FocusedAll n ps x → FocusedAll n ps y → FocusedAll n ps (choose b x y)
unfolding choose
either_all true h k = h
either_all false h k = k

-- a plan r over one input p: the record is r's own, or one of p's
focus_input : (here? : Bool) {p r : Plan} {o : Option Focus} (f : Plan → Plan) → ok r ≡ true
    → ((q : Plan) → Keeps q p → Keeps (f q) r) → Focused p o → Focused r (choose here? (here r) (focus_in f o))
focus_input here? f o step h = either here? (focus_here o) (focus_inside f step h)

-- the same where the records of r's parts stand between
focus_behind : (here? past? : Bool) {p r : Plan} {o : Option Focus} (f : Plan → Plan) → ok r ≡ true
    → ((q : Plan) → Keeps q p → Keeps (f q) r) → Focused p o → Focused r (choose here? (here r) (choose past? (focus_in f o) none))
focus_behind here? past? f o step h = either here? (focus_here o) (either past? (focus_inside f step h) not_there)

mutual
  unfolding focus rule

  focused : (p : Plan) (n : ℕ) → ok p ≡ true → Focused p (focus n p)
  focused (scan t fs es) n o = either (eqb n 0) (focus_here o) not_there
  focused (filter e p) n o = focus_behind _ _ (filter e) o (λ q h. in_filter e o h) (focused p _ (and_r _ _ o))
  focused (project es p) n o = focus_behind _ _ (project es) o (λ q h. in_project es o h) (focused p _ (and_r _ _ (and_r _ _ o)))
  focused (join k l r on g) n o =
      let lr = and_r _ _ (and_r _ _ (and_r _ _ o)) in
      either (eqb n 0) (focus_here o) (either _
      (focus_inside (λ q. join k l q on g) (λ q h. in_right k l on g o h) (focused r _ (and_r _ _ lr)))
      (focus_inside (λ q. join k q r on g) (λ q h. in_left k r on g o h) (focused l _ (and_l _ _ lr))))
  focused (alias a p) n o = focus_input _ (alias a) o (λ q h. in_alias a o h) (focused p _ (and_r _ _ o))
  focused (union ps) n o = either (eqb n 0) (focus_here o) (focus_union (focused_all ps _ _ o))
  focused (distinct p) n o = focus_input _ distinct o (λ q h. in_distinct h) (focused p _ o)
  focused (sort f ks p) n o = focus_behind _ _ (sort f ks) o (λ q h. in_sort f ks o h) (focused p _ (and_r _ _ o))
  focused (repartition p) n o = focus_input _ repartition o (λ q h. in_repartition h) (focused p _ o)
  focused (limit i j p) n o = focus_input _ (limit i j) o (λ q h. in_limit i j h) (focused p _ o)
  focused (aggregate gs ags p) n o =
      focus_behind _ _ (aggregate gs ags) o (λ q h. in_aggregate gs ags o h) (focused p _ (and_r _ _ (and_r _ _ (and_r _ _ o))))
  focused (window ws p) n o = focus_behind _ _ (window ws) o (λ q h. in_window ws o h) (focused p _ (and_r _ _ (and_r _ _ o)))

  focused_all : (ps : Plans) (n m : ℕ) → ok_all m ps ≡ true → FocusedAll m ps (focus_all n ps)
  focused_all pnil n m o = not_there_all
  focused_all (pcons p ps) n m o =
      let i = and_r _ _ o in
      either_all _ (focus_later m p o (focused_all ps _ m (and_r _ _ i))) (focus_first m ps o (focused p n (and_l _ _ i)))

-- ---- what an answer says of the plan that was given

pub record Leaves (q p : Plan) : Type 0 where
  pub keeps : Keeps q p
  pub fitting : within_limits q ≡ true

pub data Answered (p : Plan) : Answer → Type 0 where
  was_granted : {f : Bool} {q : Plan} → Leaves q p → Answered p (granted f q)
  was_refused : {k r : ℕ} → Answered p (refused k r)

in_answered : {p : Plan} (n : ℕ) {o : Option Focus} → Focused p o → Answered p (rewrite_in n o)
unfolding rewrite_in choose result_fits
in_answered n not_there = was_refused
in_answered {p} n (found {c = c} h) = go (result_fits c) refl
  where
    go : (b : Bool) → result_fits c ≡ b
        → Answered p (choose b (granted (rewrite c.plan).transformed (c.back (rewrite c.plan).plan)) (refused 11 n))
    go true e = was_granted (record { keeps = h.put_back _ (rewrite_keeps c.plan h.there); fitting = and_l _ _ e })
    go false e = was_refused

pub rewrite_at_answered : (n : ℕ) (p : Plan) → ok p ≡ true → Answered p (rewrite_at n p)
unfolding rewrite_at
rewrite_at_answered n p o = in_answered n (focused p n o)

-- what a caller learns: the plan left has the rows, the schema, the types and the scans of the plan given, and is accepted
pub record Kept (q p : Plan) : Type 0 where
  pub same_rows : (W : World) → TablesFit W p → rows W q ≡ rows W p
  pub same_schema : schema q ≡ schema p
  pub same_types : types q ≡ types p
  pub same_scans : scans q ≡ scans p
  pub accepted_again : accepted q ≡ true

pub leaves_self : {p : Plan} → ok p ≡ true → within_limits p ≡ true → Leaves p p
leaves_self o f = record { keeps = keeps_self o; fitting = f }

pub accepted_ok : (p : Plan) → accepted p ≡ true → ok p ≡ true
unfolding accepted types_ok
accepted_ok p h = names_typed_ok p (and_l _ _ (and_r _ _ h)) (and_l _ _ (and_r _ _ (and_r _ _ h)))

pub types_ok_again : (q p : Plan) → Keeps q p → types_ok p ≡ true → types_ok q ≡ true
unfolding types_ok
types_ok_again q p k h = and_intro (k.typed_again (and_l _ _ h)) (rw k.scans_same (and_r _ _ h))

pub kept : {q p : Plan} → Leaves q p → types_ok p ≡ true → Kept q p
unfolding accepted
kept {q} {p} l y = record {
  same_rows = l.keeps.row_lists;
  same_schema = l.keeps.schemas;
  same_types = l.keeps.types_same;
  same_scans = l.keeps.scans_same;
  accepted_again = and_intro l.fitting (and_intro (ok_names q l.keeps.well) (types_ok_again q p l.keeps y));
}
