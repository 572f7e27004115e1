-- The fields read off the records of a plan's tree are the plan's.
--     tree_fields                  the tree of a plan gives one schema, `fields` of the plan
--     fields_names, fields_types   its names are the plan's schema, its types the plan's types
--     fields_typed, both_typed     so a name has the type that it has over the plan, or over both inputs of a join
-- Assumes nothing.
use Prim.Native.Nat.{ℕ}
use mathlib.Core.Path.{◌≡◌, refl, ap, ap₂, ◌∙◌}
use mathlib.Core.List.{List, [], ◌∷◌, ◌++◌, map, append-nil, map-append, map-map}
use Rattle.image.specs.Tree.{Label, Forest, none, node}
use Rattle.image.specs.Lowest.{alone}
use Rattle.plan.specs.Kinds as K
use Rattle.plan.specs.Kinds.{part, plan, what, what_of, among}
use Rattle.plan.specs.Schema.{look_d, schema, schema_first, sides}
use Rattle.plan.specs.Syntax.{Name, nm, Expr, col, num, bool, nul, bin, neg, test, between, inlist, fn, Field, Entry, Key, AggEntry}
use Rattle.plan.specs.Syntax.{WinEntry, Kind, inner, left, right, full, left_semi, right_semi, left_anti, right_anti, Plan, scan, filter}
use Rattle.plan.specs.Syntax.{project, join, alias, union, distinct, sort, repartition, limit, aggregate, window, Plans, pnil, pcons}
use Rattle.plan.specs.Trees.{join_number, label_e, kids_e, in_front, each, nothing_below, field_label, entry_label, entry_kids, pair_label, pair_kids}
use Rattle.plan.specs.Trees.{key_label, key_kids, agg_label, agg_kids, win_label, win_kids, filter_kids, label_p, kids_p, forest_p, plan_tree}
use Rattle.plan.specs.Types.{type_of_expr, types, types_first, side_types, field_types, both_types}
use Rattle.plan.proofs.Written.{name_back, expr_what}
use Rattle.check_fields.specs.Fields.{Fld, fld, Schema, type_in, type_of, type_first, made, made_q, requalify, join_fields, input, inputs, names_in}
use Rattle.plan.specs.Schema as S
use Rattle.check_fields.specs.Rules.{types_in}

-- the plan in front of other trees
abbrev pub stand : Plan → Forest → Forest
stand p ns = node (label_p p) (kids_p p) ns

-- ---- the type of an expression

pub type_label : (s : Schema) (e : Expr) → type_of s (label_e e) ≡ type_of_expr (type_in s) e
unfolding type_of label_e type_of_expr what_of among
type_label s (col x) = rw (name_back x)
type_label s (num z) = refl
type_label s (bool b) = refl
type_label s (nul t) = refl
type_label s (bin o a b) = refl
type_label s (neg a) = refl
type_label s (test t a) = refl
type_label s (between n a l u) = refl
type_label s (inlist n a xs) = refl
type_label s (fn p q r xs) = refl

-- ---- the fields of a plan: `schema` and `types` side by side

abbrev scan_field : Field → Fld
scan_field f = fld f.name f.ty

abbrev entry_field : Schema → Entry → Fld
entry_field s e = fld e.name (type_of_expr (type_in s) e.expr)

abbrev agg_field : AggEntry → Fld
agg_field a = fld a.name 1

abbrev win_field : WinEntry → Fld
win_field w = fld w.name 1

unfoldable mutual
  pub fields : Plan → Schema
  fields (scan t fs es) = map scan_field fs
  fields (filter e p) = fields p
  fields (project es p) = map (entry_field (fields p)) es
  fields (join k l r on f) = join_fields (join_number k) (fields l) (fields r)
  fields (alias q p) = map (requalify q) (fields p)
  fields (union ps) = input 0 (fields_all ps)
  fields (distinct p) = fields p
  fields (sort f ks p) = fields p
  fields (repartition p) = fields p
  fields (limit n k p) = fields p
  fields (aggregate gs ags p) = map (entry_field (fields p)) gs ++ map agg_field ags
  fields (window ws p) = fields p ++ map win_field ws

  pub fields_all : Plans → List Schema
  fields_all pnil = []
  fields_all (pcons p ps) = fields p ∷ fields_all ps

-- ---- expressions and parts are no inputs, and only parts make fields

pub plan_what : (p : Plan) → (k : K.PlanKind) × (what (label_p p) ≡ plan k)
unfolding label_p what_of among
plan_what (scan t fs es) = (K.TableScan, refl)
plan_what (filter e p) = (K.Filter, refl)
plan_what (project es p) = (K.Projection, refl)
plan_what (join k l r on f) = (K.Join, refl)
plan_what (alias q p) = (K.SubqueryAlias, refl)
plan_what (union ps) = (K.Union, refl)
plan_what (distinct p) = (K.Distinct, refl)
plan_what (sort f ks p) = (K.Sort, refl)
plan_what (repartition p) = (K.Repartition, refl)
plan_what (limit n k p) = (K.Limit, refl)
plan_what (aggregate gs ags p) = (K.Aggregate, refl)
plan_what (window ws p) = (K.Window, refl)

pub inputs_expr : (e : Expr) (ns : Forest) → inputs (in_front e ns) ≡ inputs ns
unfolding inputs
inputs_expr e ns = rw (expr_what e).1

made_plan : (s : Schema) (p : Plan) → made s (stand p none) ≡ []
unfolding made
made_plan s p = rw (plan_what p).1

made_exprs : (s : Schema) (es : List Expr) → made s (each label_e kids_e es none) ≡ []
unfolding each made
made_exprs s [] = refl
made_exprs s (e ∷ es) = rw (expr_what e).1 (made_exprs s es)

module _ {A : Type 0} (l : A → Label) (k : A → Forest) (q : K.PartKind) (is : (x : A) → what (l x) ≡ part q) where
  inputs_each : (xs : List A) (ns : Forest) → inputs (each l k xs ns) ≡ inputs ns
  unfolding each inputs
  inputs_each [] ns = refl
  inputs_each (x ∷ xs) ns = rw (is x) (inputs_each xs ns)

  module _ (s : Schema) (make : A → Fld) (makes : (x : A) (rest : Schema) → made_q q s (l x) (k x) rest ≡ make x ∷ rest) where
    made_each : (xs : List A) (ns : Forest) → made s (each l k xs ns) ≡ map make xs ++ made s ns
    unfolding each made
    made_each [] ns = refl
    made_each (x ∷ xs) ns = rw (is x, makes x (made s (each l k xs ns)), made_each xs ns)

-- ---- run by run

pub inputs_entries : (es : List Entry) (ns : Forest) → inputs (each entry_label entry_kids es ns) ≡ inputs ns
unfolding what_of among
inputs_entries = inputs_each entry_label entry_kids K.EntryPart (λ x. refl)

pub inputs_keys : (ks : List Key) (ns : Forest) → inputs (each key_label key_kids ks ns) ≡ inputs ns
unfolding what_of among
inputs_keys = inputs_each key_label key_kids K.KeyPart (λ x. refl)

pub inputs_aggs : (ags : List AggEntry) (ns : Forest) → inputs (each agg_label agg_kids ags ns) ≡ inputs ns
unfolding what_of among
inputs_aggs = inputs_each agg_label agg_kids K.AggPart (λ x. refl)

pub inputs_wins : (ws : List WinEntry) (ns : Forest) → inputs (each win_label win_kids ws ns) ≡ inputs ns
unfolding what_of among
inputs_wins = inputs_each win_label win_kids K.WinPart (λ x. refl)

pub made_fields : (fs : List Field) (es : List Expr) → made [] (each field_label nothing_below fs (each label_e kids_e es none)) ≡ map scan_field fs
unfolding what_of among
made_fields fs es =
    made_each field_label nothing_below K.FieldPart (λ x. refl) [] scan_field (λ f rest. rw (name_back f.name)) fs (each label_e kids_e es none)
    ∙ rw (made_exprs [] es) (append-nil _)

made_entries : (s : Schema) (es : List Entry) (ns : Forest) → made s (each entry_label entry_kids es ns) ≡ map (entry_field s) es ++ made s ns
unfolding what_of among type_first
made_entries s =
    made_each entry_label entry_kids K.EntryPart (λ x. refl) s (entry_field s) (λ e rest. rw (name_back e.name, type_label s e.expr))

made_aggs : (s : Schema) (ags : List AggEntry) (ns : Forest) → made s (each agg_label agg_kids ags ns) ≡ map agg_field ags ++ made s ns
unfolding what_of among
made_aggs s = made_each agg_label agg_kids K.AggPart (λ x. refl) s agg_field (λ a rest. rw (name_back a.name))

made_wins : (s : Schema) (ws : List WinEntry) (ns : Forest) → made s (each win_label win_kids ws ns) ≡ map win_field ws ++ made s ns
unfolding what_of among
made_wins s = made_each win_label win_kids K.WinPart (λ x. refl) s win_field (λ w rest. rw (name_back w.name))

-- the schemas of a plan in front of other trees, and of the inputs of a Union
mutual
  unfolding inputs label_p kids_p forest_p what_of among fields input

  pub inputs_plan : (p : Plan) (ns : Forest) → inputs (stand p ns) ≡ fields p ∷ inputs ns
  inputs_plan (scan t fs es) ns = rw (made_fields fs es)
  inputs_plan (filter e p) ns = rw (inputs_expr e (stand p none), inputs_plan p none)
  inputs_plan (project es p) ns =
      rw (inputs_entries es (stand p none), inputs_plan p none, made_entries (fields p) es (stand p none), made_plan (fields p) p) (rw append-nil)
  inputs_plan (join k l r on f) ns =
      let rest = each pair_label pair_kids on (filter_kids f) in
      rw (inputs_plan l (stand r rest), inputs_plan r rest)
  inputs_plan (alias q p) ns = rw (inputs_plan p none)
  inputs_plan (union ps) ns = rw (inputs_plans ps)
  inputs_plan (distinct p) ns = rw (inputs_plan p none)
  inputs_plan (sort f ks p) ns = rw (inputs_keys ks (stand p none), inputs_plan p none)
  inputs_plan (repartition p) ns = rw (inputs_plan p none)
  inputs_plan (limit n k p) ns = rw (inputs_plan p none)
  inputs_plan (aggregate gs ags p) ns =
      let rest = each agg_label agg_kids ags (stand p none) in
      rw (
        inputs_entries gs rest,
        inputs_aggs ags (stand p none),
        inputs_plan p none,
        made_entries (fields p) gs rest,
        made_aggs (fields p) ags (stand p none),
        made_plan (fields p) p,
      ) (rw append-nil)
  inputs_plan (window ws p) ns =
      rw (inputs_wins ws (stand p none), inputs_plan p none, made_wins (fields p) ws (stand p none), made_plan (fields p) p) (rw append-nil)

  pub inputs_plans : (ps : Plans) → inputs (forest_p ps) ≡ fields_all ps
  inputs_plans pnil = refl
  inputs_plans (pcons p ps) = rw (inputs_plan p (forest_p ps), inputs_plans ps)

-- ---- their names and their types

pub names_append : (s t : Schema) → names_in (s ++ t) ≡ names_in s ++ names_in t
unfolding names_in
names_append s t = map-append (λ (f : Fld). f.name) s t

types_append : (s t : Schema) → types_in (s ++ t) ≡ types_in s ++ types_in t
unfolding types_in
types_append s t = map-append (λ (f : Fld). f.ty) s t

names_requalify : (q : ℕ) (s : Schema) → names_in (map (requalify q) s) ≡ map (S.requalify q) (names_in s)
unfolding names_in requalify
names_requalify q [] = refl
names_requalify q (f ∷ s) = rw (names_requalify q s, head f.name)
  where
    head : (n : Name) → (requalify q (fld n f.ty)).name ≡ S.requalify q n
    head (nm r n) = refl

types_requalify : (q : ℕ) (s : Schema) → types_in (map (requalify q) s) ≡ types_in s
unfolding types_in requalify
types_requalify q [] = refl
types_requalify q (f ∷ s) = rw (types_requalify q s)

join_names : (k : Kind) (s t : Schema) → names_in (join_fields (join_number k) s t) ≡ sides k (names_in s) (names_in t)
unfolding join_fields input
join_names inner s t = names_append s t
join_names left s t = names_append s t
join_names right s t = names_append s t
join_names full s t = names_append s t
join_names left_semi s t = refl
join_names right_semi s t = refl
join_names left_anti s t = refl
join_names right_anti s t = refl

join_types : (k : Kind) (s t : Schema) → types_in (join_fields (join_number k) s t) ≡ side_types k (types_in s) (types_in t)
unfolding join_fields input
join_types inner s t = types_append s t
join_types left s t = types_append s t
join_types right s t = types_append s t
join_types full s t = types_append s t
join_types left_semi s t = refl
join_types right_semi s t = refl
join_types left_anti s t = refl
join_types right_anti s t = refl

module _ {A : Type 0} (make : A → Fld) where
  names_made : (xs : List A) → names_in (map make xs) ≡ map (λ x. (make x).name) xs
  unfolding names_in
  names_made = map-map (λ (f : Fld). f.name) make

  types_made : (xs : List A) → types_in (map make xs) ≡ map (λ x. (make x).ty) xs
  unfolding types_in
  types_made = map-map (λ (f : Fld). f.ty) make

-- the types of a scan's fields, read off its children
pub scan_types_lem : (fs : List Field) (es : List Expr)
    → types_in (made [] (each field_label nothing_below fs (each label_e kids_e es none))) ≡ map (λ (f : Field). f.ty) fs
scan_types_lem fs es = ap types_in (made_fields fs es) ∙ types_made scan_field fs

mutual
  unfolding fields schema input names_in

  pub fields_names : (p : Plan) → names_in (fields p) ≡ schema p
  fields_names (scan t fs es) = names_made scan_field fs
  fields_names (filter e p) = fields_names p
  fields_names (project es p) = names_made (entry_field (fields p)) es
  fields_names (join k l r on f) = join_names k (fields l) (fields r) ∙ ap₂ (sides k) (fields_names l) (fields_names r)
  fields_names (alias q p) = names_requalify q (fields p) ∙ ap (map (S.requalify q)) (fields_names p)
  fields_names (union ps) = first_names ps
  fields_names (distinct p) = fields_names p
  fields_names (sort f ks p) = fields_names p
  fields_names (repartition p) = fields_names p
  fields_names (limit n k p) = fields_names p
  fields_names (aggregate gs ags p) =
      names_append (map (entry_field (fields p)) gs) (map agg_field ags)
      ∙ ap₂ ◌++◌ (names_made (entry_field (fields p)) gs) (names_made agg_field ags)
  fields_names (window ws p) =
      names_append (fields p) (map win_field ws) ∙ ap₂ ◌++◌ (fields_names p) (names_made win_field ws)

  first_names : (ps : Plans) → names_in (input 0 (fields_all ps)) ≡ schema_first ps
  first_names pnil = refl
  first_names (pcons p ps) = fields_names p

type_in_lem : (s : Schema) (x : Name) → type_in s x ≡ look_d 0 (names_in s) (types_in s) x
unfolding type_in names_in types_in
type_in_lem [] x = refl
type_in_lem (f ∷ s) x = rw (type_in_lem s x)

-- a schema of these names and types gives a name the type that these lists give it
typed_by : (s : Schema) {ns : List Name} {ts : List ℕ} → names_in s ≡ ns → types_in s ≡ ts → type_in s ≡ look_d 0 ns ts
typed_by s e h = λ i x. (type_in_lem s x ∙ ap₂ (λ ns ts. look_d 0 ns ts x) e h) i

entry_types : (p : Plan) → types_in (fields p) ≡ types p → (es : List Entry)
    → types_in (map (entry_field (fields p)) es) ≡ map (λ (e : Entry). type_of_expr (field_types p) e.expr) es
entry_types p h es =
    types_made (entry_field (fields p)) es
    ∙ ap (λ τ. map (λ (e : Entry). type_of_expr τ e.expr) es) (typed_by (fields p) (fields_names p) h)

mutual
  unfolding fields types input types_in

  pub fields_types : (p : Plan) → types_in (fields p) ≡ types p
  fields_types (scan t fs es) = types_made scan_field fs
  fields_types (filter e p) = fields_types p
  fields_types (project es p) = entry_types p (fields_types p) es
  fields_types (join k l r on f) = join_types k (fields l) (fields r) ∙ ap₂ (side_types k) (fields_types l) (fields_types r)
  fields_types (alias q p) = types_requalify q (fields p) ∙ fields_types p
  fields_types (union ps) = first_types ps
  fields_types (distinct p) = fields_types p
  fields_types (sort f ks p) = fields_types p
  fields_types (repartition p) = fields_types p
  fields_types (limit n k p) = fields_types p
  fields_types (aggregate gs ags p) =
      types_append (map (entry_field (fields p)) gs) (map agg_field ags)
      ∙ ap₂ ◌++◌ (entry_types p (fields_types p) gs) (types_made agg_field ags)
  fields_types (window ws p) =
      types_append (fields p) (map win_field ws) ∙ ap₂ ◌++◌ (fields_types p) (types_made win_field ws)

  first_types : (ps : Plans) → types_in (input 0 (fields_all ps)) ≡ types_first ps
  first_types pnil = refl
  first_types (pcons p ps) = fields_types p

-- the fields of a plan by name
pub fields_typed : (p : Plan) → type_in (fields p) ≡ field_types p
fields_typed p = typed_by (fields p) (fields_names p) (fields_types p)

-- the fields of both inputs of a join
pub both_typed : (l r : Plan) → type_in (fields l ++ fields r) ≡ both_types l r
both_typed l r =
    typed_by (fields l ++ fields r)
    (names_append (fields l) (fields r) ∙ ap₂ ◌++◌ (fields_names l) (fields_names r))
    (types_append (fields l) (fields r) ∙ ap₂ ◌++◌ (fields_types l) (fields_types r))

-- ---- the schema read off the records of a plan's tree

pub tree_fields : (p : Plan) → inputs (alone (plan_tree p)) ≡ fields p ∷ []
unfolding inputs
tree_fields p = inputs_plan p none
