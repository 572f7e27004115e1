-- Names (6), asked of the records of a plan's tree, is Name (6) of the plan.
-- Assumes nothing.
use mathlib.Core.Path.{◌≡◌, refl, ap, ap₂, ◌∙◌}
use mathlib.Core.Bool.{true}
use mathlib.Core.List.{List, [], ◌++◌, append-nil}
use mathlib.Core.Option.{Option}
use Rattle.image.specs.Tree.{none}
use Rattle.plan.specs.Kinds.{what_of, among}
use Rattle.plan.specs.Lists.{◌&◌}
use Rattle.plan.specs.Schema.{schema}
use Rattle.plan.specs.Syntax.{Expr, col, num, bool, nul, bin, neg, test, between, inlist, fn, Pair, Kind, Plan, scan, filter, project, join}
use Rattle.plan.specs.Syntax.{alias, union, distinct, sort, repartition, limit, aggregate, window}
use Rattle.plan.specs.Trees.{label_e, kids_e, each, pair_label, pair_kids, filter_kids, label_p, kids_p, plan_tree}
use Rattle.plan.proofs.Written.{name_back}
use Rattle.acceptance.specs.Names.{one_field, sound, sound_plan, name_rules, bad_name}
use Rattle.check_fields.specs.Fields.{inputs, names_in, input}
use Rattle.check_fields.specs.Rules.{Scope, over, seen, name_ok, bad_names}
use Rattle.check_names.proofs.TreeFields.{stand, fields, inputs_plan, names_append, fields_names}
use Rattle.check_names.proofs.TreeMarks.{Agrees, over_one, over_both, tree_lowest}

-- a reference over a scope
name_expr : (c : Scope) (e : Expr) → name_ok c (label_e e) (kids_e e) ≡ one_field (names_in (seen c)) e
unfolding name_ok label_e what_of among one_field
name_expr c (col x) = rw (name_back x)
name_expr c (num z) = refl
name_expr c (bool b) = refl
name_expr c (nul t) = refl
name_expr c (bin o a b) = refl
name_expr c (neg a) = refl
name_expr c (test t a) = refl
name_expr c (between n a l u) = refl
name_expr c (inlist n a xs) = refl
name_expr c (fn p q r xs) = refl

seen_one : (p : Plan) → names_in (seen (over_one p)) ≡ schema p
seen_one p = rw append-nil (fields_names p)

seen_both : (l r : Plan) → names_in (seen (over_both l r)) ≡ schema l ++ schema r
seen_both l r = names_append (fields l) (fields r) ∙ ap₂ ◌++◌ (fields_names l) (fields_names r)

-- the schemas of both inputs of a join, read off its children
inputs_sound : (k : Kind) (l r : Plan) (on : List Pair) (f : Option Expr)
    → let ins = inputs (kids_p (join k l r on f)) in sound (names_in (input 0 ins ++ input 1 ins)) ≡ sound (schema l ++ schema r)
unfolding kids_p input
inputs_sound k l r on f =
    let rest = each pair_label pair_kids on (filter_kids f) in
    rw (inputs_plan l (stand r rest), inputs_plan r rest, seen_both l r)

-- a plan's own schema, read off its record
own_sound : (p : Plan) → sound (names_in (input 0 (inputs (stand p none)))) ≡ sound (schema p)
unfolding input
own_sound p = rw (inputs_plan p none, fields_names p)

name_plan : (c : Scope) (p : Plan) → name_ok c (label_p p) (kids_p p) ≡ sound_plan p
unfolding name_ok label_p what_of among sound_plan input inputs
name_plan c (scan t fs es) = ap (λ b. b & true) (own_sound (scan t fs es))
name_plan c (filter e p) = ap (λ b. b & true) (own_sound (filter e p))
name_plan c (project es p) = ap (λ b. b & true) (own_sound (project es p))
name_plan c (join k l r on f) = ap₂ ◌&◌ (own_sound (join k l r on f)) (inputs_sound k l r on f)
name_plan c (alias q p) = ap (λ b. b & true) (own_sound (alias q p))
name_plan c (union ps) = ap (λ b. b & true) (own_sound (union ps))
name_plan c (distinct p) = ap (λ b. b & true) (own_sound (distinct p))
name_plan c (sort f ks p) = ap (λ b. b & true) (own_sound (sort f ks p))
name_plan c (repartition p) = ap (λ b. b & true) (own_sound (repartition p))
name_plan c (limit n k p) = ap (λ b. b & true) (own_sound (limit n k p))
name_plan c (aggregate gs ags p) = ap (λ b. b & true) (own_sound (aggregate gs ags p))
name_plan c (window ws p) = ap (λ b. b & true) (own_sound (window ws p))

names_agree : Agrees name_ok name_rules
unfolding name_ok what_of among
names_agree = record {
  plan = name_plan;
  one = λ p e. name_expr (over_one p) e ∙ ap (λ s. one_field s e) (seen_one p);
  both = λ l r e. name_expr (over_both l r) e ∙ ap (λ s. one_field s e) (seen_both l r);
  field = λ c f. refl;
  entry = λ c e. refl;
  pair = λ l r k. refl;
  key = λ c k. refl;
  agg = λ p a. refl;
  win = λ p w. refl;
}

-- the records of a plan's tree break the name rules first where the plan does
pub tree_names : (p : Plan) → bad_names (plan_tree p) ≡ bad_name p
unfolding bad_names bad_name
tree_names p = tree_lowest name_ok name_rules names_agree (over [] []) p
