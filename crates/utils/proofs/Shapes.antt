-- What the schema of a plan is, by the kind of its record, the fields that its parts make, and its inputs.
--     shape           its parts alone, no input, or an input with what comes behind its fields
-- Assumes nothing.
use mathlib.Core.Path.{◌≡◌, refl, sym, ap, ◌∙◌}
use mathlib.Core.Bool.{true, false}
use mathlib.Core.List.{List, [], ◌∷◌, ◌++◌, map, append-nil}
use mathlib.Core.Option as O
use mathlib.Core.Option.{Option, some}
use Prim.Native.Nat.{◌≤◌, ◌<◌}
use native.Mathlib.Omega.{arith}
use lib.ListN.{length, get_or}
use Rattle.image.specs.Tree.{Label, Forest, none, node, Tree}
use Rattle.plan.specs.Lists.{put}
use Rattle.plan.specs.Schema.{schema, schema_first}
use Rattle.plan.specs.Syntax.{Name, nm, Expr, col, num, bool, nul, bin, neg, test, between, inlist, fn, Field, Entry, Pair, AggEntry}
use Rattle.plan.specs.Syntax.{WinEntry, Kind, inner, left, right, full, left_semi, right_semi, left_anti, right_anti, Plan, scan, filter}
use Rattle.plan.specs.Syntax.{project, join, alias, union, distinct, sort, repartition, limit, aggregate, window, pnil, pcons}
use Rattle.plan.specs.Trees.{label_e, kids_e, in_front, each, nothing_below, field_label, entry_label, entry_kids, pair_label, pair_kids, key_label}
use Rattle.plan.specs.Trees.{key_kids, agg_label, agg_kids, win_label, win_kids, filter_kids, label_p, kids_p, forest_p, plan_tree}
use Rattle.plan.specs.Kinds.{what, what_of, among, is_plan}
use Rattle.plan.specs.FieldSources.{makes, role, creates, renames, extends, gives_both, own}
use Rattle.plan.specs.declared.field_sources.Role.{Role}
use Rattle.plan.specs.Inputs.{plans_in}
use Rattle.plan.proofs.Written.{name_back}
use Rattle.std.specs.Prelude.{None}
use Rattle.utils.specs.Inputs.{below, called, made}

-- no tree
abbrev pub no_tree : Tree
no_tree = record { label = record { kind = 0; p = 0; q = 0; r = 0; lo = 0; hi = 0 }; below = none }

-- ---- expressions and parts are no inputs, and only parts make fields

expr_kind : (e : Expr) → (is_plan (label_e e) ≡ false) × (makes (what (label_e e)) ≡ false)
unfolding label_e what_of among
expr_kind (col x) = (refl, refl)
expr_kind (num z) = (refl, refl)
expr_kind (bool b) = (refl, refl)
expr_kind (nul t) = (refl, refl)
expr_kind (bin o a b) = (refl, refl)
expr_kind (neg a) = (refl, refl)
expr_kind (test t a) = (refl, refl)
expr_kind (between n a l h) = (refl, refl)
expr_kind (inlist n a xs) = (refl, refl)
expr_kind (fn p q r xs) = (refl, refl)

plan_kind : (p : Plan) → (is_plan (label_p p) ≡ true) × (makes (what (label_p p)) ≡ false)
unfolding label_p what_of among
plan_kind (scan t fs es) = (refl, refl)
plan_kind (filter e p) = (refl, refl)
plan_kind (project es p) = (refl, refl)
plan_kind (join k l r on f) = (refl, refl)
plan_kind (alias q p) = (refl, refl)
plan_kind (union ps) = (refl, refl)
plan_kind (distinct p) = (refl, refl)
plan_kind (sort f ks p) = (refl, refl)
plan_kind (repartition p) = (refl, refl)
plan_kind (limit n k p) = (refl, refl)
plan_kind (aggregate gs ags p) = (refl, refl)
plan_kind (window ws p) = (refl, refl)

-- a plan in front of other trees
abbrev stand : Plan → Forest → Forest
stand p ns = node (label_p p) (kids_p p) ns

plans_plan : (p : Plan) (ns : Forest) → plans_in (stand p ns) ≡ plan_tree p ∷ plans_in ns
unfolding plans_in put
plans_plan p ns = rw (plan_kind p).0

plans_expr : (e : Expr) (ns : Forest) → plans_in (in_front e ns) ≡ plans_in ns
unfolding plans_in put
plans_expr e ns = rw (expr_kind e).0

made_plan : (p : Plan) → made (stand p none) ≡ []
unfolding made put
made_plan p = rw (plan_kind p).1

made_exprs : (es : List Expr) → made (each label_e kids_e es none) ≡ []
unfolding each made put
made_exprs [] = refl
made_exprs (e ∷ es) = rw (expr_kind e).1 (made_exprs es)

-- a run of parts
module _ {A : Type 0} (l : A → Label) (k : A → Forest) where
  plans_each : ((x : A) → is_plan (l x) ≡ false) → (xs : List A) (ns : Forest) → plans_in (each l k xs ns) ≡ plans_in ns
  unfolding each plans_in put
  plans_each is [] ns = refl
  plans_each is (x ∷ xs) ns = rw (is x) (plans_each is xs ns)

  made_each : (name : A → Name) → ((x : A) → makes (what (l x)) ≡ true) → ((x : A) → nm (l x).p (l x).q ≡ name x)
      → (xs : List A) (ns : Forest) → made (each l k xs ns) ≡ map name xs ++ made ns
  unfolding each made put
  made_each name is same [] ns = refl
  made_each name is same (x ∷ xs) ns = rw (is x, same x, made_each name is same xs ns)

-- ---- the shape of a plan

abbrev pub role_of : Plan → Role
role_of p = role (what (label_p p))

-- what comes behind the fields of the input i
pub data Rest (p i : Plan) : Type 0 where
  nothing_more : extends (role_of p) ≡ false → gives_both (role_of p) (label_p p).p ≡ false
      → schema p ≡ called (below (renames (role_of p)) (label_p p).p None) (schema i) → Rest p i
  parts : extends (role_of p) ≡ true → gives_both (role_of p) (label_p p).p ≡ false → renames (role_of p) ≡ false
      → schema p ≡ schema i ++ made (kids_p p) → Rest p i
  second : extends (role_of p) ≡ false → gives_both (role_of p) (label_p p).p ≡ true → renames (role_of p) ≡ false
      → (j : Plan) → 1 < length (plans_in (kids_p p)) → get_or (plans_in (kids_p p)) 1 no_tree ≡ plan_tree j → schema p ≡ schema i ++ schema j
      → Rest p i

pub data Shape (p : Plan) : Type 0 where
  own_parts : creates (role_of p) ≡ true → schema p ≡ made (kids_p p) → Shape p
  no_input : creates (role_of p) ≡ false → length (plans_in (kids_p p)) ≤ own (role_of p) (label_p p).p → schema p ≡ [] → Shape p
  over : creates (role_of p) ≡ false → (i : Plan) → own (role_of p) (label_p p).p < length (plans_in (kids_p p))
      → get_or (plans_in (kids_p p)) (own (role_of p) (label_p p).p) no_tree ≡ plan_tree i → Rest p i → Shape p

-- an input is found at its place
there : {xs rest : List Tree} {t : Tree} → xs ≡ t ∷ rest → (0 < length xs) × (get_or xs 0 no_tree ≡ t)
there e = rw e (omega arith, refl)

there_second : {xs rest : List Tree} {t u : Tree} → xs ≡ t ∷ u ∷ rest → (1 < length xs) × (get_or xs 1 no_tree ≡ u)
there_second e = rw e (omega arith, refl)

plans_none : plans_in none ≡ []
unfolding plans_in
plans_none = refl

plans_one : (p : Plan) → plans_in (stand p none) ≡ plan_tree p ∷ []
plans_one p = plans_plan p none ∙ ap (plan_tree p ∷◌) plans_none

plans_filter : (f : Option Expr) → plans_in (filter_kids f) ≡ []
plans_filter O.none = plans_none
plans_filter (some e) = plans_expr e none ∙ plans_none

-- the inputs of a join
plans_join : (k : Kind) (l r : Plan) (on : List Pair) (f : Option Expr) → plans_in (kids_p (join k l r on f)) ≡ plan_tree l ∷ plan_tree r ∷ []
unfolding kids_p what_of among
plans_join k l r on f =
    plans_plan l _
    ∙ ap (plan_tree l ∷◌) (plans_plan r _ ∙ ap (plan_tree r ∷◌)
    (plans_each pair_label pair_kids (λ x. refl) on (filter_kids f) ∙ plans_filter f))

-- the fields of an Aggregate
made_aggregate : (gs : List Entry) (ags : List AggEntry) (p : Plan)
    → map (λ (e : Entry). e.name) gs ++ map (λ (a : AggEntry). a.name) ags ≡ made
    (each entry_label entry_kids gs (each agg_label agg_kids ags (stand p none)))
unfolding what_of among
made_aggregate gs ags p =
    sym (made_each entry_label entry_kids (λ (e : Entry). e.name) (λ x. refl) (λ x. name_back x.name) gs _
    ∙ ap (map (λ (e : Entry). e.name) gs ++◌)
    (made_each agg_label agg_kids (λ (a : AggEntry). a.name) (λ x. refl) (λ x. name_back x.name) ags _
    ∙ (ap (map (λ (a : AggEntry). a.name) ags ++◌) (made_plan p) ∙ append-nil _)))

join_shape : (k : Kind) (l r : Plan) (on : List Pair) (f : Option Expr) → Shape (join k l r on f)
unfolding label_p schema what_of among
join_shape k l r on f = go k (there (plans_join k l r on f)) (there_second (plans_join k l r on f))
  where
    go : (k : Kind) → (0 < length (plans_in (kids_p (join k l r on f)))) × (get_or (plans_in (kids_p (join k l r on f))) 0 no_tree ≡ plan_tree l)
        → (1 < length (plans_in (kids_p (join k l r on f)))) × (get_or (plans_in (kids_p (join k l r on f))) 1 no_tree ≡ plan_tree r)
        → Shape (join k l r on f)
    go inner h g = over refl l h.0 h.1 (second refl refl refl r g.0 g.1 refl)
    go left h g = over refl l h.0 h.1 (second refl refl refl r g.0 g.1 refl)
    go right h g = over refl l h.0 h.1 (second refl refl refl r g.0 g.1 refl)
    go full h g = over refl l h.0 h.1 (second refl refl refl r g.0 g.1 refl)
    go left_semi h g = over refl l h.0 h.1 (nothing_more refl refl refl)
    go right_semi h g = over refl r g.0 g.1 (nothing_more refl refl refl)
    go left_anti h g = over refl l h.0 h.1 (nothing_more refl refl refl)
    go right_anti h g = over refl r g.0 g.1 (nothing_more refl refl refl)

pub shape : (p : Plan) → Shape p
unfolding label_p kids_p forest_p schema schema_first what_of among
shape (scan t fs es) =
    own_parts refl
    (sym (made_each field_label nothing_below (λ (f : Field). f.name) (λ x. refl) (λ x. name_back x.name) fs _
    ∙ (ap (map (λ (f : Field). f.name) fs ++◌) (made_exprs es) ∙ append-nil _)))
shape (filter e p) = let h = there (plans_expr e (stand p none) ∙ plans_one p) in over refl p h.0 h.1 (nothing_more refl refl refl)
shape (project es p) =
    own_parts refl
    (sym (made_each entry_label entry_kids (λ (e : Entry). e.name) (λ x. refl) (λ x. name_back x.name) es _
    ∙ (ap (map (λ (e : Entry). e.name) es ++◌) (made_plan p) ∙ append-nil _)))
shape (join k l r on f) = join_shape k l r on f
shape (alias q p) = let h = there (plans_one p) in over refl p h.0 h.1 (nothing_more refl refl refl)
shape (union pnil) = no_input refl (rw plans_none (omega arith)) refl
shape (union (pcons p ps)) = let h = there (plans_plan p (forest_p ps)) in over refl p h.0 h.1 (nothing_more refl refl refl)
shape (distinct p) = let h = there (plans_one p) in over refl p h.0 h.1 (nothing_more refl refl refl)
shape (sort f ks p) =
    let h = there (plans_each key_label key_kids (λ x. refl) ks (stand p none) ∙ plans_one p) in
    over refl p h.0 h.1 (nothing_more refl refl refl)
shape (repartition p) = let h = there (plans_one p) in over refl p h.0 h.1 (nothing_more refl refl refl)
shape (limit n k p) = let h = there (plans_one p) in over refl p h.0 h.1 (nothing_more refl refl refl)
shape (aggregate gs ags p) = own_parts refl (made_aggregate gs ags p)
shape (window ws p) =
    let h = there (plans_each win_label win_kids (λ x. refl) ws (stand p none) ∙ plans_one p) in
    over refl p h.0 h.1
    (parts refl refl refl (ap (schema p ++◌) (sym (made_each win_label win_kids (λ (w : WinEntry). w.name) (λ x. refl)
    (λ x. name_back x.name) ws _
    ∙ (ap (map (λ (w : WinEntry). w.name) ws ++◌) (made_plan p) ∙ append-nil _)))))
