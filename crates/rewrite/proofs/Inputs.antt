-- The plans among the children of a plan, kind by kind: how many, and where the first stands.
use Prim.Native.Nat.{ℕ, suc, ◌+◌}
use native.Mathlib.Omega.{arith}
use mathlib.Core.Path.{◌≡◌, refl, ap, ◌∙◌}
use mathlib.Core.Bool.{false}
use mathlib.Core.List.{List, [], ◌∷◌}
use mathlib.Core.Option as O
use mathlib.Core.Option.{Option, some}
use Rattle.image.specs.Tree.{Label, Forest, none, node}
use Rattle.plan.specs.Lists.{choose}
use Rattle.plan.specs.Kinds.{is_plan, what_of, among}
use Rattle.plan.specs.Syntax.{Expr, Field, Entry, Pair, Key, AggEntry, WinEntry, Kind, Plans, pnil, pcons, Plan, scan, filter, project}
use Rattle.plan.specs.Syntax.{join, alias, union, distinct, sort, repartition, limit, aggregate, window}
use Rattle.plan.specs.Trees.{label_e, kids_e, each, nothing_below, field_label, entry_label, entry_kids, pair_label, pair_kids, key_label, key_kids}
use Rattle.plan.specs.Trees.{agg_label, agg_kids, win_label, win_kids, filter_kids, label_p, kids_p, forest_p}
use Rattle.plan.specs.Measure.{size_e, sizes}
use Rattle.rewrite.specs.Pass.{plans, before_plans, inputs, first_input}
use Rattle.rewrite.proofs.Marks.{expr_mark, plan_mark}

-- `m` inputs, the first behind `k` records of other children
pub record Inputs (p : Plan) (m k : ℕ) : Type 0 where
  pub count : inputs p ≡ m
  pub first : first_input p ≡ suc k

-- a plan in front of others
plan_first : (p : Plan) (ns : Forest) → plans (node (label_p p) (kids_p p) ns) ≡ suc (plans ns)
unfolding plans
plan_first p ns = rw (plan_mark p) (omega arith)

plan_there : (p : Plan) (ns : Forest) → before_plans (node (label_p p) (kids_p p) ns) ≡ 0
unfolding before_plans choose
plan_there p ns = rw (plan_mark p)

module _ {A : Type 0} (l : A → Label) (k : A → Forest) (h : (x : A) → is_plan (l x) ≡ false) where
  each_none : (xs : List A) (ns : Forest) → plans (each l k xs ns) ≡ plans ns
  unfolding plans each
  each_none [] ns = refl
  each_none (x ∷ xs) ns = rw (h x) (omega (arith, each_none xs ns))

  each_before : (xs : List A) (ns : Forest) → before_plans (each l k xs ns) ≡ sizes k xs + before_plans ns
  unfolding before_plans each choose sizes
  each_before [] ns = omega arith
  each_before (x ∷ xs) ns = rw (h x) (omega (arith, each_before xs ns))

-- ---- each kind

-- one plan behind a run of parts
module _ {A : Type 0} (l : A → Label) (k : A → Forest) (h : (x : A) → is_plan (l x) ≡ false) (xs : List A) (p : Plan) where
  one_after : plans (each l k xs (node (label_p p) (kids_p p) none)) ≡ 1
  unfolding plans
  one_after = each_none l k h xs (node (label_p p) (kids_p p) none) ∙ plan_first p none

  after_run : suc (before_plans (each l k xs (node (label_p p) (kids_p p) none))) ≡ suc (sizes k xs)
  after_run = omega (arith, each_before l k h xs (node (label_p p) (kids_p p) none), plan_there p none)

-- one plan, and no other child
only : (p : Plan) → plans (node (label_p p) (kids_p p) none) ≡ 1
unfolding plans
only p = plan_first p none

only_there : (p : Plan) → suc (before_plans (node (label_p p) (kids_p p) none)) ≡ 1
only_there p = ap suc (plan_there p none)

pub no_inputs : (t : ℕ) (fs : List Field) (es : List Expr) → inputs (scan t fs es) ≡ 0
unfolding inputs kids_p plans what_of among
no_inputs t fs es = each_none field_label nothing_below (λ x. refl) fs (each label_e kids_e es none) ∙ each_none label_e kids_e expr_mark es none

pub inputs_filter : (e : Expr) (p : Plan) → Inputs (filter e p) 1 (size_e e)
unfolding inputs first_input kids_p plans before_plans choose size_e
inputs_filter e p =
    record { count = rw (expr_mark e) (omega (arith, only p)); first = rw (expr_mark e) (omega (arith, only_there p)) }

pub inputs_project : (es : List Entry) (p : Plan) → Inputs (project es p) 1 (sizes entry_kids es)
unfolding inputs first_input kids_p what_of among
inputs_project es p =
    record { count = one_after entry_label entry_kids (λ x. refl) es p; first = after_run entry_label entry_kids (λ x. refl) es p }

no_other : (on : List Pair) (f : Option Expr) → plans (each pair_label pair_kids on (filter_kids f)) ≡ 0
unfolding plans what_of among
no_other on O.none = each_none pair_label pair_kids (λ x. refl) on none
no_other on (some e) = each_none pair_label pair_kids (λ x. refl) on (filter_kids (some e)) ∙ rw (expr_mark e)

pub inputs_join : (k : Kind) (l r : Plan) (on : List Pair) (f : Option Expr) → Inputs (join k l r on f) 2 0
unfolding inputs first_input kids_p
inputs_join k l r on f =
    let ps : Forest = each pair_label pair_kids on (filter_kids f) in
    let rs : Forest = node (label_p r) (kids_p r) ps in
    record { count = omega (arith, plan_first l rs, plan_first r ps, no_other on f); first = omega (arith, plan_there l rs) }

pub inputs_alias : (q : ℕ) (p : Plan) → Inputs (alias q p) 1 0
unfolding inputs first_input kids_p
inputs_alias q p = record { count = only p; first = only_there p }

union_there : (ps : Plans) → before_plans (forest_p ps) ≡ 0
unfolding kids_p before_plans
union_there pnil = refl
union_there (pcons p ps) = plan_there p (forest_p ps)

pub inputs_union : (ps : Plans) → Inputs (union ps) (plans (forest_p ps)) 0
unfolding inputs first_input kids_p
inputs_union ps = record { count = refl; first = ap suc (union_there ps) }

pub inputs_pnil : plans (forest_p pnil) ≡ 0
unfolding kids_p plans
inputs_pnil = refl

pub inputs_pcons : (p : Plan) (ps : Plans) → plans (forest_p (pcons p ps)) ≡ suc (plans (forest_p ps))
unfolding kids_p
inputs_pcons p ps = plan_first p (forest_p ps)

pub inputs_distinct : (p : Plan) → Inputs (distinct p) 1 0
unfolding inputs first_input kids_p
inputs_distinct p = record { count = only p; first = only_there p }

pub inputs_sort : (f : Option ℕ) (ks : List Key) (p : Plan) → Inputs (sort f ks p) 1 (sizes key_kids ks)
unfolding inputs first_input kids_p what_of among
inputs_sort f ks p = record { count = one_after key_label key_kids (λ x. refl) ks p; first = after_run key_label key_kids (λ x. refl) ks p }

pub inputs_repartition : (p : Plan) → Inputs (repartition p) 1 0
unfolding inputs first_input kids_p
inputs_repartition p = record { count = only p; first = only_there p }

pub inputs_limit : (n k : ℕ) (p : Plan) → Inputs (limit n k p) 1 0
unfolding inputs first_input kids_p
inputs_limit n k p = record { count = only p; first = only_there p }

pub inputs_aggregate : (gs : List Entry) (ags : List AggEntry) (p : Plan) → Inputs (aggregate gs ags p) 1 (sizes entry_kids gs + sizes agg_kids ags)
unfolding inputs first_input kids_p what_of among
inputs_aggregate gs ags p =
    let ns : Forest = each agg_label agg_kids ags (node (label_p p) (kids_p p) none) in
    record {
      count = each_none entry_label entry_kids (λ x. refl) gs ns ∙ one_after agg_label agg_kids (λ x. refl) ags p;
      first = omega (arith, each_before entry_label entry_kids (λ x. refl) gs ns, after_run agg_label agg_kids (λ x. refl) ags p);
    }

pub inputs_window : (ws : List WinEntry) (p : Plan) → Inputs (window ws p) 1 (sizes win_kids ws)
unfolding inputs first_input kids_p what_of among
inputs_window ws p = record { count = one_after win_label win_kids (λ x. refl) ws p; first = after_run win_label win_kids (λ x. refl) ws p }
